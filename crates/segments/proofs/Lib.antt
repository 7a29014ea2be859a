pub mod Gates
pub mod Looks
pub mod Pictures
pub mod Positions
