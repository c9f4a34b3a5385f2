pub mod TurnLaws
pub mod WrittenLaws
pub mod PlayedLaws
pub mod Rows
