pub mod Equating
pub mod Comparing
