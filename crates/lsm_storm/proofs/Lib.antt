pub mod Counting
pub mod Crewing
pub mod Pages
pub mod Raising
pub mod Refusing
