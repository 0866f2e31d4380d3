pub mod Accepted
mod FittingReaches
pub mod BoundedReaches
pub mod DirectedLive
pub mod Gathered
pub mod ReachLines
pub mod FirstDirection
mod FallsOfModel
