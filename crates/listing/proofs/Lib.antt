pub mod Beginning
pub mod LineLaws
