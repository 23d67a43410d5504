pub mod Improving
pub mod Naming
