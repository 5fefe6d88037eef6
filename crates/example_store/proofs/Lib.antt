pub mod Surviving
