pub mod DifferenceLaws
pub mod EqualLaws
pub mod CompareLaws
pub mod ReadableLaws
