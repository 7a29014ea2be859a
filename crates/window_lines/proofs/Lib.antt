pub mod Beside
pub mod InList
