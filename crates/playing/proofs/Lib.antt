pub mod Judging
pub mod Faults
pub mod Played
pub mod Checking
