pub mod LevelLogs
pub mod Written
