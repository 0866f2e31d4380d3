pub mod OrderBySign
pub mod BestSoFar
