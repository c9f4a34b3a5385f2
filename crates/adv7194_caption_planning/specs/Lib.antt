pub mod Demands
pub mod Packable
