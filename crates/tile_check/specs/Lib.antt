pub mod Answer
pub mod Alone
pub mod Lent
