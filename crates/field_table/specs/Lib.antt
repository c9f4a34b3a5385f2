pub mod Rows
pub mod Coding
pub mod Writes
pub mod Walk
pub mod Blocks
pub mod RoundTrip
pub mod Refusals
pub mod Masks
