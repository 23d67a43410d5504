pub mod Formats
pub mod Few
pub mod BlifFew
pub mod AigerFew
pub mod FormatLaws
