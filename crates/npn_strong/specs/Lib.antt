pub mod Cut
pub mod CutHolds
pub mod Whole
pub mod Fences
pub mod NpnVectors
