pub mod Directions
pub mod Reading
pub mod Pairing
pub mod Directing
pub mod Coordinates
