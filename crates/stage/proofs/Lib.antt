mod Accepted
mod Finished
mod Offsets
mod Outcome
mod Steps
