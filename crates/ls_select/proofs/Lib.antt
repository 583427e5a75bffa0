pub mod Examples
pub mod Picked
pub mod Sound
