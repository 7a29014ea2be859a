pub mod Decision
pub mod Luma
pub mod Chroma
pub mod Answer
pub mod Counted
pub mod Code
