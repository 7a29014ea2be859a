pub mod Found
pub mod Fraction
pub mod OneToOne
pub mod Sample
