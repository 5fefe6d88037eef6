pub mod Making
pub mod Following
pub mod Ending
pub mod Staying
pub mod Lasting
pub mod Finding
