pub mod Cases
pub mod Facts
