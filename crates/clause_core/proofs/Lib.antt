pub mod Simplified
pub mod Marks
