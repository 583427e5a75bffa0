pub mod Joins
pub mod Framing
