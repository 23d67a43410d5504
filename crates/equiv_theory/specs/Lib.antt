pub mod Miter
pub mod Counterexample
pub mod RowLaws
pub mod GateLaws
pub mod FormulaLaws
pub mod MiterLaws
pub mod CircuitLaws
