pub mod Characters
pub mod Pairs
pub mod Plans
pub mod Planning
pub mod Reading
