pub mod Marks
pub mod RowForm
pub mod EntriesSeen
pub mod RowSeen
