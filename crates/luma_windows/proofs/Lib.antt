mod Decided
mod Turn
