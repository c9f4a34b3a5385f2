pub mod RuleLaws
pub mod MapRules
pub mod KindLaws
pub mod LimitLaws
