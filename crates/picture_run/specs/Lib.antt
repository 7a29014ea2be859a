pub mod Outputs
pub mod Sums
