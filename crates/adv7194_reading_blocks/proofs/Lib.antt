pub mod StoreLaws
pub mod CurveLaws
pub mod SignalLaws
