pub mod Playing
pub mod Checking
