pub mod Stage
pub mod Staged
pub mod Gives
pub mod StagesText
