pub mod Report
pub mod Indexes
pub mod Summary
