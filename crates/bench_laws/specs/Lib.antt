pub use Rattle.net_theory.specs.Document
pub use Rattle.net_theory.specs.Circuit
pub use Rattle.net_document.specs.Format
pub use Rattle.bench_core.specs.Bench
pub mod Spelled
