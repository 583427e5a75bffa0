pub mod Busy
pub mod Settling
pub mod Sound
pub mod Acting
pub mod Fault
pub mod Replaying
pub mod Given
