pub mod FaultLaws
pub mod WordLaws
pub mod TextLaws
