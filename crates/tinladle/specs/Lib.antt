pub mod Floats
pub mod Lists
pub mod Passed
pub mod Sums
