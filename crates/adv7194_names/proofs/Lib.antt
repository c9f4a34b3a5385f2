pub mod ColumnLaws
pub mod TableLaws
pub mod Choosing
