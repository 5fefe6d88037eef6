pub mod Steps
mod Opened
pub mod Lived
pub mod Lifetimes
pub mod Made
pub mod Listing
pub mod Beginnings
mod Formatted
mod WorkedBatches
