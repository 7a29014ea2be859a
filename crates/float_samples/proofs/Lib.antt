pub mod Answers
mod Examples
pub mod Exact
mod Powers
pub mod OneToOne
pub mod Sides
