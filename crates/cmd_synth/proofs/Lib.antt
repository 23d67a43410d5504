pub mod LeastDepths
pub mod Synthesising
pub mod Writing
