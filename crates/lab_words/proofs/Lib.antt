pub mod Faultless
pub mod Numbers
pub mod Options
pub mod Places
pub mod Answered
