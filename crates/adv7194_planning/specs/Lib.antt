pub mod Aims
pub mod Rows
pub mod Checks
pub mod Planning
pub mod NoLimit
