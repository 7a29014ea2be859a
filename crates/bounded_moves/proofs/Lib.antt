pub mod Checked
pub mod Lines
pub mod Passes
pub mod Pictures
pub mod Segments
