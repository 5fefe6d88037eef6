pub mod Bases
mod Bringing
mod Choosing
mod Giving
pub mod Counting
pub mod Crashes
pub mod Holds
pub mod Keeping
pub mod Lending
pub mod Telling
pub mod Turning
pub mod OwnWork
pub mod Endings
pub mod Faults
mod Advising
mod Places
pub mod AtWork
