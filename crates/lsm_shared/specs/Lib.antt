pub mod Clients
pub mod Due
pub mod Holds
pub mod Pieces
pub mod Sessions
pub mod Turns
pub mod Workers
