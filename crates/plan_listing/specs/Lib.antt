pub mod PlanText
pub mod Listing
