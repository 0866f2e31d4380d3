pub mod BuiltFlags
pub mod StagedSteps
pub mod FirstRefused
pub mod Settled
pub mod FirstDecides
