pub mod Arcs
pub mod Changes
pub mod State
pub mod Places
