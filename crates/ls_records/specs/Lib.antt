pub mod Records
pub mod Change
pub mod Law
pub mod Step
pub mod Index
pub mod Links
