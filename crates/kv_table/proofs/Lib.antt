pub mod Changes
pub mod Expiring
pub mod Found
pub mod Indexes
pub mod Rows
