pub mod Evens
pub mod Files
