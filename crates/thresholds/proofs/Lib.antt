pub mod Rows
pub mod Facts
pub mod LumaTable
pub mod Most
pub mod Ends
pub mod Readings
