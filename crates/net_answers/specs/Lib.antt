pub mod Answered
pub mod Routed
pub mod Recorded
