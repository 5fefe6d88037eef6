pub mod Recency
pub mod Reads
pub mod Fresh
