pub use Rattle.net_theory.specs.Document
pub use Rattle.net_theory.specs.WellFormed
pub use Rattle.net_theory.specs.Circuit
pub use Rattle.net_document.specs.Listed
pub use Rattle.aiger_text.specs.Meaning
pub mod Written
pub mod Aiger
