pub mod Kinds
pub mod Playing
pub mod Written
