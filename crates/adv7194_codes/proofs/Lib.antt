pub mod Rounded
pub mod FitLaws
pub mod ScaledLaws
