pub mod Storms
pub mod Counters
pub mod Crews
pub mod Tallies
