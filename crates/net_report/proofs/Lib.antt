pub mod Places
pub mod Examples
pub mod Parts
pub mod Hops
pub mod Totals
