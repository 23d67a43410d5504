pub mod Sets
pub mod Flags
pub mod Subsuming
pub mod Chains
