pub mod Asked
pub mod Calls
pub mod Replaying
pub mod Leading
pub mod Living
pub mod Batches
pub mod Devices
