pub mod Listed
pub mod Units
