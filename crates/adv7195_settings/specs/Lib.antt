pub mod Fields
pub mod Numbers
pub mod Wanted
pub mod Rows
pub mod Reading
