pub mod Elsewhere
pub mod Lines
pub mod Lists
pub mod HexBytes
