pub mod Fits
pub mod Ports
pub mod Steps
