pub use Rattle.net_theory.specs.Net
pub use Rattle.window_theory.specs.Window
pub use Rattle.improve_theory.specs.Settled
pub mod Outcomes
pub mod Resynthesized
pub mod OrderLaws
pub mod AttemptLaws
pub mod ResynthesizedLaws
