pub mod Masks
pub mod Plain
pub mod Expected
pub mod Exploring
