pub mod AnswerLaws
pub mod CaptionLaws
pub mod InputLaws
