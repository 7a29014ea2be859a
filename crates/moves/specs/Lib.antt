pub mod Farthest
