pub mod Columns
pub mod Template
