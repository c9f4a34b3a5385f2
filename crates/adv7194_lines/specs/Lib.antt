pub mod Kinds
pub mod Lines
pub mod Templates
