pub mod Bits
pub mod Example
pub mod Palette
pub mod Turned
pub mod Verdict
