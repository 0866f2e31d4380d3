mod Between
mod Turned
mod ReversedScenes
mod ReversedContacts
mod Exact
mod ReversedLoads
mod Sides
mod Printable
mod AsJudgement
pub mod BothSides
