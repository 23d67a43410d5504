pub mod Counting
pub mod Finding
pub mod Lines
pub mod Replying
