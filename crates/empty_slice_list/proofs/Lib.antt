pub mod Stands
pub mod EmptyList
pub mod Example
