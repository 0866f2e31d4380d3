mod Courses
mod Sides
mod Numbers
mod Neighbours
mod Ends
mod Counting
mod Existence
pub mod WallLaws
