pub mod Answers
mod Inside
pub mod Known
pub mod RoundTrip
