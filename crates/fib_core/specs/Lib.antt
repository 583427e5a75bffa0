pub mod Agent
pub mod Fib
pub mod Law
