pub mod Empty
pub mod Paths
pub mod Tables
pub mod Touched
pub mod Places
pub mod Steps
pub mod Kept
