pub mod Entries
pub mod RoundTrip
pub mod EmptyPlan
