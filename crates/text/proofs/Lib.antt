pub mod Appending
pub mod DigitBytes
pub mod DigitLists
pub mod Numerals
pub mod Signs
pub mod Zeros
