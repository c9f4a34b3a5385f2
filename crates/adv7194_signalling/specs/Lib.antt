pub mod Word
pub mod Held
pub mod Check
pub mod Cgms
pub mod Wss
pub mod Kind
pub mod Signalling
pub mod Answers
