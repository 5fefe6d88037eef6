pub mod Replay
pub mod Batches
pub mod Longest
pub mod Opened
pub mod ReadSoFar
