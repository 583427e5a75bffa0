pub mod Steps
pub mod Answers
pub mod Again
pub mod Answered
pub mod Summed
