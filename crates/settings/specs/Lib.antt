pub mod Limits
pub mod Methods
pub mod Synth
pub mod Improve
