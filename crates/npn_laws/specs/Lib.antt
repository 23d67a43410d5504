pub mod Exchange
pub mod Transformed
pub mod Descent
pub mod Least
