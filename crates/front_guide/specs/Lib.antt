pub mod Guided
pub mod Words
