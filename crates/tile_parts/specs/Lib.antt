pub mod Parts
pub mod Tiles
pub mod Cuts
