mod TableReads
mod WrittenPlaces
mod PartPlaces
mod Made
pub mod EndOfSurvey
pub mod EndedTables
pub mod WholeNumbers
pub mod ScaledLists
pub mod WholeEnds
pub mod PosedSums
pub mod HeldCertificates
pub mod EndCertificates
