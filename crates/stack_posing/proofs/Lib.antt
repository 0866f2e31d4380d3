pub mod SurveyEntries
mod GrowingEntries
mod PosedParts
mod WholeProblem
mod TwoBodies
pub mod FreeBodies
pub mod EdgeSums
pub mod Solutions
pub mod Moves
pub mod ByNumber
