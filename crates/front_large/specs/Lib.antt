pub mod LargeAsked
pub mod LargeRuns
pub mod LargeValues
pub mod LargeWords
