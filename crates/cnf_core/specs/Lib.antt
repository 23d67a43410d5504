pub mod Bounds
pub mod Codes
pub mod CodeLaws
pub use Rattle.sat_theory.specs.Formula
