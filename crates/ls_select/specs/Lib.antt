pub mod Laws
pub mod Selection
