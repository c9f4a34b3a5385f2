pub mod NumberLaws
pub mod PartLaws
pub mod TableLaws
pub mod WantedLaws
pub mod InverseLaws
pub mod PlaceLaws
pub mod ReadingLaws
pub mod PlacedLaws
