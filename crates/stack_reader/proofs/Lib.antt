pub mod Collected
pub mod Documents
pub mod Written
pub mod Filled
pub mod ReadBack
pub mod Versions
pub mod PutTables
