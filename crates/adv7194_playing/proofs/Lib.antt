pub mod KindLaws
pub mod Rows
pub mod WrittenLaws
pub mod WrittenRun
pub mod PlayedLaws
