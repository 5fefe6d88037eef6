pub mod Keeping
pub mod Inputs
pub mod Ranges
pub mod Parts
pub mod Divisions
pub mod Results
pub mod Loops
pub mod Laws
