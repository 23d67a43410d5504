pub mod Exchange
pub mod Judged
