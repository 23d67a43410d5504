pub mod Comparison
pub mod Named
pub mod Aiger
pub mod Fronted
