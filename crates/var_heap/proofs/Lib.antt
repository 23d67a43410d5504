pub mod Writing
pub mod Arranging
pub mod Heaps
pub mod Standing
pub mod Filling
pub mod Holding
