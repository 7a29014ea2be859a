pub mod Bands
pub mod Parts
pub mod Strips
pub mod Tables
pub mod Turn
pub mod Windows
