pub mod Kind
pub mod Rules
pub mod Order
