pub mod Probes
pub mod Bits
pub mod Laws
