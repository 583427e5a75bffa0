pub mod Entries
pub mod Timers
pub mod DueKeys
