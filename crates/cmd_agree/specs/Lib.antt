pub mod Agree
pub mod AgreeLaws
pub mod AgreePromise
pub mod AgreeReport
pub mod Asked
pub mod Obligations
