pub mod Numbered
pub mod Parts
