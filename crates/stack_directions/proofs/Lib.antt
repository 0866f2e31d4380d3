pub mod DirectionLines
pub mod DirectionLists
pub mod DirectedBorne
pub mod Points
