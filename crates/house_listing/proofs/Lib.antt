pub mod AnswerLaws
pub mod HouseLaws
