pub mod Answered
pub mod Appending
pub mod Copying
pub mod Laying
pub mod Making
pub mod Texts
