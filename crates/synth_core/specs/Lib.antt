pub mod UsedInputs
pub mod SettingsHeader
pub mod Tables
pub mod Certifying
pub mod Pieces
pub mod DepthCertifying
