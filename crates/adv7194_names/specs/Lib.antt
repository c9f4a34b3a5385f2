pub mod Names
pub mod Columns
pub mod Values
pub mod Widths
