pub mod Faults
pub mod Listing
pub mod Words
