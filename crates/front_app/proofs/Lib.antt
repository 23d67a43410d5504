pub mod Comparing
pub mod Naming
pub mod AigerWords
pub mod Fronting
pub mod Wishing
