pub mod KindLaws
pub mod LineLaws
