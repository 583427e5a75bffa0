pub mod Offered
pub mod Expiry
pub mod Index
pub mod Held
pub mod Slots
pub mod Sending
pub mod Digest
