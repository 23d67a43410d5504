pub mod Visit
pub mod VisitLaws
pub mod Frames
pub mod Cycles
