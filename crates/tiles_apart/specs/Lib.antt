pub mod Term3
