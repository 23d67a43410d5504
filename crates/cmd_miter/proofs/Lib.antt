pub mod Plain
pub mod Finding
pub mod Replying
