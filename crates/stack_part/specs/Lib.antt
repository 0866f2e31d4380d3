pub mod Part
pub mod Laws
