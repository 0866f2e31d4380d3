pub mod Answers
pub mod Best
pub mod Tells
pub mod Written
pub mod EndKinds
pub mod LastTables
