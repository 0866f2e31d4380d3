pub mod Pieces
pub mod Scenes
pub mod TwoBlocks
pub mod WorkedScenes
pub mod SurveyedPost
pub mod WorkedFactors
pub mod WorkedFiles
