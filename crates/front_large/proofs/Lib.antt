pub mod Performing
pub mod Questions
pub mod Reading
pub mod Runs
pub mod Wording
