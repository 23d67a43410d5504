pub mod Holding
pub mod Smalls
