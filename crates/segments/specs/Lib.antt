pub mod Listed
pub mod Between
pub mod Sides
pub mod Pictures
pub mod Ready
pub mod Input
