pub mod Accompanied
pub mod FormulaAsked
pub mod FormulaRuns
pub mod LogEnds
pub mod Logged
pub mod MiterAsked
pub mod MiterRuns
pub mod MiterValues
