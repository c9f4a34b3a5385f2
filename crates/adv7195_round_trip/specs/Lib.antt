pub mod RoundTrip
pub mod EmptyPlan
