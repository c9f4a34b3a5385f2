pub mod CandidateLaws
pub mod TableLaws
pub mod SpanLaws
pub mod LowestLaws
pub mod HighestLaws
pub mod CutLaws
