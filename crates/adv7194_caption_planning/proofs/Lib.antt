pub mod PairCounts
pub mod PlayedLaws
pub mod Clauses
