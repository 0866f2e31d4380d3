pub mod LowestTerms
pub mod FramesOfDirections
pub mod LesserCones
pub mod MadeNumbers
pub mod Senses
