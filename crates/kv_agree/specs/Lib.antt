pub mod Agreement
pub mod Exchange
pub mod Traced
pub mod Orderly
pub mod Paired
pub mod Joined
