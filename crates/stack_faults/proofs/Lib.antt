pub mod FirstEdges
pub mod Firsts
pub mod Walks
pub mod Names
pub mod Written
pub mod StepAnswers
mod MaterialAnswers
pub mod BlockAnswers
pub mod LoadAnswers
pub mod JointAnswers
pub mod ContentAnswers
pub mod Crooked
pub mod ShapeAnswers
pub mod TableAnswers
pub mod FileAnswers
