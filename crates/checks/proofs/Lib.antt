pub mod Areas
pub mod Forms
pub mod Tests
