pub mod TextLaws
pub mod WalkLaws
