pub mod Widths
pub mod CompareText
