pub mod Putting
pub mod NumberLaws
