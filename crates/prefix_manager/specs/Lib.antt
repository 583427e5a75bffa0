pub mod Aggregates
pub mod PrefixManager
