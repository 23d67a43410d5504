pub mod Choosing
pub mod Finding
pub mod Wording
pub mod Written
