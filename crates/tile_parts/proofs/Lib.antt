pub mod Tiles
pub mod Sizes
pub mod Cropped
pub mod Counted
pub mod Same
