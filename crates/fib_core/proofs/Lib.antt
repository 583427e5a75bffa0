pub mod Asking
pub mod Calls
pub mod Programmed
pub mod Recovery
pub mod Named
