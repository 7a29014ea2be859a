pub mod Numbered
pub mod Record
pub mod Refusal
