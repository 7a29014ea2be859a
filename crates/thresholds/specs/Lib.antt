pub mod Tables
pub mod Luma
pub mod LumaTable
pub mod Chroma
pub mod Clipped
