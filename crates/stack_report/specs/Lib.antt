pub mod ContactTable
pub mod ForceNumbers
pub mod ForceTable
pub mod Tabling
pub mod Summary
