pub mod Devices
pub mod Disks
pub mod Journals
pub mod Laid
pub mod Records
pub mod Sound
