pub use Rattle.net_theory.specs.Document
pub use Rattle.net_theory.specs.WellFormed
pub use Rattle.net_theory.specs.Circuit
pub use Rattle.net_theory.specs.NetOf
pub use Rattle.net_theory.specs.Cost
pub use Rattle.net_document.specs.Listed
pub use Rattle.net_document.specs.Refusals
pub mod Parts
