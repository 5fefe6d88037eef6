pub mod Tasks
pub mod Deeds
pub mod Committing
