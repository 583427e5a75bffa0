pub mod Items
pub mod Writing
pub mod Reading
pub mod Appended
pub mod Keys
