pub mod Levels
pub mod LevelRows
pub mod LevelLaws
pub mod CleanupLaws
