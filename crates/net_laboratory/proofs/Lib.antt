pub mod Room
pub mod Smallness
