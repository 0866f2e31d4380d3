pub mod Signs
pub mod WrittenTests
pub mod WrittenForces
pub mod WrittenMotions
pub mod WrittenCheck
pub mod Shown
pub mod Verdict
