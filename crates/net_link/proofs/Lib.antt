pub mod Examples
pub mod Sending
pub mod Plain
pub mod Came
pub mod Flow
