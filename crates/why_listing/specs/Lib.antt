pub mod WhyText
pub mod Parts
