pub mod Widths
pub mod Values
pub mod FieldLines
