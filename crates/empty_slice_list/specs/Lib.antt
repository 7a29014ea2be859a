pub mod EmptyList
