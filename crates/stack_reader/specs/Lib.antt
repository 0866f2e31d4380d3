pub mod Keys
pub mod Gives
pub mod Forms
pub mod Shape
pub mod Reading
pub mod Writing
