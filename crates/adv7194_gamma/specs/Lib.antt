pub mod Power
pub mod Curve
pub mod Answer
