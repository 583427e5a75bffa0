pub mod Walk
pub mod Least
pub mod Table
pub mod Local
pub mod Search
pub mod Rows
pub mod Law
pub mod Slack
