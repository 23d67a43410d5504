pub mod Xag
pub mod Grown
