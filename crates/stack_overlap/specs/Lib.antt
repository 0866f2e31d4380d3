pub mod Separation
pub mod Forms
pub mod CommonPoints
pub mod Marks
pub mod Ends
pub mod Boxes
