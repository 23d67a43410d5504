pub mod Comparisons
pub mod Improvements
