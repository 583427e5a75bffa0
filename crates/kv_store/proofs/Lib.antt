pub mod Peers
pub mod Growth
pub mod Written
pub mod Starting
pub mod Responding
pub mod Turn
pub mod Numbered
pub mod Origins
