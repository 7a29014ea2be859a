pub mod Answer
pub mod Checksum
pub mod Rows
