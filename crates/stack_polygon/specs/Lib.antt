pub mod Plane
pub mod Corners
pub mod Limits
pub mod Outlines
pub mod Admission
pub mod Area
pub mod Sizes
pub mod Spans
