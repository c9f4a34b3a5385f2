pub mod VerdictLaws
pub mod OrderLaws
pub mod PlaceLaws
