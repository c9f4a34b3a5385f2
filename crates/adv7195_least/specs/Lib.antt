pub mod Plan
pub mod Reaching
pub mod Demands
pub mod Played
