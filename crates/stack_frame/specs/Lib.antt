pub mod Tangents
pub mod Directions
pub mod Cones
pub mod Admitted
