mod Ratio
mod Tests
pub mod EndedRuns
