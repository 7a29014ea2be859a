pub mod CutLists
pub mod Lines
pub mod Trials
