pub mod Known
pub mod Places
