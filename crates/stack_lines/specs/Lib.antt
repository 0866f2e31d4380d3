pub mod ModelLines
pub mod Refusals
pub mod Errors
pub mod CheckText
pub mod Verdicts
