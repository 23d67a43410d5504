pub mod Pairs
pub mod Questions
pub mod Runs
