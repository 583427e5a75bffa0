pub mod Scenario
pub mod Limits
pub mod Amounts
pub mod Sound
pub mod Small
