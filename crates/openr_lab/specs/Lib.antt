pub mod Streams
pub mod Built
pub mod Answer
pub mod Ends
