pub mod ReadMeans
pub mod WantedReads
pub mod ReadPlan
