pub mod Compared
pub mod Outcomes
