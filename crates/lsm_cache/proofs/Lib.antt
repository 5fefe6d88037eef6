pub mod Recent
pub mod Kept
pub mod Counts
