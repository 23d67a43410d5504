pub mod Room
pub mod Descents
