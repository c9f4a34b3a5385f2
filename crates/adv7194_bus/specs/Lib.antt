pub mod Kind
pub mod Step
pub mod Board
pub mod Limit
pub mod Rules
