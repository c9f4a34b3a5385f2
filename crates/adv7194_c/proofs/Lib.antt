pub mod Promises
pub mod CaptionPromises
pub mod Comparing
pub mod Playing
pub mod Explaining
