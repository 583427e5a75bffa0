pub mod Scratch
pub mod Law
pub mod Reach
pub mod Decision
pub mod History
