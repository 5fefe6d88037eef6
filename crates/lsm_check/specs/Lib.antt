pub mod Counted
pub mod Found
pub mod Images
pub mod Named
pub mod Seen
pub mod Sound
