pub mod Advancing
pub mod Buffering
pub mod Opening
pub mod Paging
pub mod Prefix
pub mod Sizes
pub mod Upkeep
pub mod Writing
