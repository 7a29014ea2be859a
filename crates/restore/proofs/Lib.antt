mod CellRows
mod PlaneRows
pub mod Restored
