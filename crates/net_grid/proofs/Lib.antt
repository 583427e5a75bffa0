pub mod Examples
pub mod Places
pub mod Sizes
pub mod Soundness
