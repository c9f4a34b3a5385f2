pub mod ColumnLaws
pub mod TemplateLaws
