pub mod Room
pub mod Bounds
pub mod Formula
