pub mod Difference
pub mod Rows
pub mod Walk
pub mod Sessions
pub mod Running
pub mod Messages
pub mod Law
