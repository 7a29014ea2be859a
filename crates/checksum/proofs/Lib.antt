mod Answers
pub mod Known
mod Masks
mod Rows
pub mod Same
