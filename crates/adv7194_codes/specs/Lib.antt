pub mod Thousandths
pub mod Signs
