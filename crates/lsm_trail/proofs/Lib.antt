pub mod Bases
pub mod Lists
pub mod Histories
pub mod Moves
pub mod Passes
pub mod Shown
mod Walks
