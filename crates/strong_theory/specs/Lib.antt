pub mod Edges
pub mod Strong
pub mod StrongVectors
