pub mod Bench
pub mod Code
