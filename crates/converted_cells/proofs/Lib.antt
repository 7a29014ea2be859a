pub mod Example
pub mod Lists
pub mod Pictures
pub mod Rule
