pub mod Agreeing
pub mod Asking
pub mod TablesRead
