pub mod Differences
pub mod Compare
