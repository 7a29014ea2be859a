pub mod Answer
pub mod Counted
pub mod Decided
pub mod Filtered
pub mod Numbers
pub mod Partings
pub mod Within
