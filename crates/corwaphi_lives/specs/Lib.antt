pub mod Calls
pub mod Batches
pub mod Leading
pub mod Devices
