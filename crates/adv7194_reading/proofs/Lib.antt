pub mod RowLaws
pub mod FieldLaws
pub mod BlockLaws
pub mod JudgeLaws
pub mod ReadLaws
pub mod AnswerLaws
