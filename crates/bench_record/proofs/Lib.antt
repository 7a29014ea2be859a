pub mod AnyAbove
pub mod Cases
pub mod Refused
