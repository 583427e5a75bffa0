pub mod Ordered
pub mod Members
pub mod Offers
pub mod AnyOrder
pub mod Keys
pub mod HeldKeys
pub mod Remainders
pub mod Prefixes
