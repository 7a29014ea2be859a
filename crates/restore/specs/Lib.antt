pub mod CellRows
pub mod Restored
