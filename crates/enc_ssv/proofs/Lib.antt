pub mod Formulas
pub mod Chains
