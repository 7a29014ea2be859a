pub mod Accepted
pub mod Example
pub mod InRange
pub mod Index
pub mod Ledger
pub mod Records
pub mod Scale
pub mod Tables
