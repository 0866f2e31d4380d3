pub mod Basics
pub mod Blocks
pub mod RowSteps
pub mod BlockRows
pub mod Parts
pub mod PivotSteps
pub mod Numbers
pub mod Growing
pub mod FirstObjective
pub mod RowByRow
pub mod AtWidest
mod Refusals
pub mod SoundProblem
