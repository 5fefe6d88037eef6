pub mod Crowding
pub mod Flushes
pub mod Gaps
pub mod Measuring
pub mod Outputs
pub mod Taking
