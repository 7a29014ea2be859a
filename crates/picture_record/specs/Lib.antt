pub mod Head
pub mod Numbers
pub mod Reading
pub mod Stops
