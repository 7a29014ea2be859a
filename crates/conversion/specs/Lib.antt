pub mod Converted
pub mod Steps
