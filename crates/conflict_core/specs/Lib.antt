pub mod Markings
pub mod Learning
