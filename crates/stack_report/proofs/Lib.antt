pub mod LineByLine
pub mod ForcesMade
pub mod Accepted
pub mod Pieces
pub mod Texts
