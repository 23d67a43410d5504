pub mod LevelRuns
