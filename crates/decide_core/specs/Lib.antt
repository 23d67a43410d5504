pub use Rattle.cert_theory.specs.Certificate
pub mod Decided
pub mod DecidedLaws
pub mod CacheLaws
pub mod Ordered
pub mod OrderedLaws
pub mod StepLaws
