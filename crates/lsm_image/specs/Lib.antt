pub mod Laid
pub mod Media
