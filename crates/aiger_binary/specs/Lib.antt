pub mod Options
pub mod Codes
pub mod Cut
pub mod Header
pub mod Low
pub mod Ascii
