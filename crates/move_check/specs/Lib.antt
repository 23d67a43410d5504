pub mod Allowed
pub mod Fitting
pub mod Sinks
pub mod SinkLaws
pub mod JudgingLaws
