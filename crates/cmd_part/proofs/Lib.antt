pub mod Numbered
pub mod Replying
