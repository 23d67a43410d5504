pub mod Options
pub mod CommandLine
pub mod Spelling
pub mod WithinLaws
