pub mod AtAsked
pub mod AtRuns
