pub mod Stored
pub mod Ranges
pub mod Fans
pub mod Tested
pub mod Sides
pub mod Admitted
pub mod SpanSteps
