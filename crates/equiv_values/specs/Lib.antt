pub mod Lines
pub mod LineLaws
pub mod Spelled
pub mod SpelledLaws
pub mod Named
pub mod NamedLaws
pub mod DifferingLaws
pub mod Told
