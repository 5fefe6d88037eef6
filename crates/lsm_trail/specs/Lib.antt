pub mod Begins
pub mod History
pub mod Entries
pub mod Following
pub mod Knowledge
pub mod Rule
pub mod Steps
