pub use Rattle.net_theory.specs.Document
pub use Rattle.blif_core.specs.Spelling
pub mod Generated
pub use Rattle.net_document.specs.Format
pub use Rattle.blif_core.specs.Blif
