pub mod Planning
pub mod Told
