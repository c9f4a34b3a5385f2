pub mod Words
pub mod ByteLaws
