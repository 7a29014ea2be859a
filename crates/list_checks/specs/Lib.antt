pub mod Cells
pub mod Samples
