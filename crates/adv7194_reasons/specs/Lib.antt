pub mod First
pub mod Reasons
pub mod Known
pub mod Why
