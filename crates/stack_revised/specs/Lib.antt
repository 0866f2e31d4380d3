pub mod NoCell
pub mod Ended
pub mod Reads
