pub mod Fields
pub mod Blocks
pub mod Table
pub mod Masks
pub mod RawCodes
pub mod Registers
