pub mod Word
pub mod Fields
pub mod Forms
pub mod Members
pub mod Flaws
pub mod Objects
