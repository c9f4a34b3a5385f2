pub mod RegisterMaps
pub mod MapPlan
pub mod CaseLaws
pub mod Clauses
pub mod StartLaws
