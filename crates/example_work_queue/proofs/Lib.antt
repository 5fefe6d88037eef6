pub mod FirstRows
pub mod Committed
pub mod Doing
pub mod Histories
pub mod Keys
