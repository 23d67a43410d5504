pub mod Held
pub mod Small
