pub mod Positions
pub mod OrderLines
