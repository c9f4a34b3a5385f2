pub mod Aim
pub mod Change
pub mod Plan
pub mod Reaching
pub mod Demands
pub mod Played
pub mod AllKnown
