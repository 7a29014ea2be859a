mod Blocks
pub mod Forms
pub mod Places
mod Records
