pub mod KeepsFormula
