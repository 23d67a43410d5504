pub mod Places
pub mod LevelRuns
pub mod Depths
