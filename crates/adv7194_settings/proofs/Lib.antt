pub mod Names
pub mod BlockBytes
pub mod FitLaws
pub mod EntryLaws
pub mod DemandLaws
pub mod FixedLaws
pub mod ReadingLaws
