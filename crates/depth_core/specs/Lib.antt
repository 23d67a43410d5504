pub mod Flattened
pub mod Texts
