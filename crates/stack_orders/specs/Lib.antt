pub mod Order
pub mod OrderRead
pub mod OrderGiven
