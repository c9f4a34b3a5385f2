pub mod Subcarrier
pub mod Answers
