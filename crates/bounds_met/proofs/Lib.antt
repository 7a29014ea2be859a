pub mod Segments
pub mod Pictures
