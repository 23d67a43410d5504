pub mod Sources
pub mod Constants
pub mod JoinedRows
