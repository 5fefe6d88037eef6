pub mod Shares
pub mod Behind
