pub mod Owned
pub mod Change
pub mod Refresh
pub mod Law
