pub mod Header
pub mod Plain
