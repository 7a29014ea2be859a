mod Joined
mod Limits
