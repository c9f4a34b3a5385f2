pub mod RuleLaws
pub mod OrderLaws
