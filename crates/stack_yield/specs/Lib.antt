pub mod Kept
pub mod LessDead
pub mod Outcomes
pub mod ByDirections
pub mod JudgedReaches
pub mod Regions
pub mod RegionText
