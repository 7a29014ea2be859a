pub mod Rows
pub mod Window
