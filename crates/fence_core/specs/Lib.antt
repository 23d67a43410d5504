pub mod Fence
pub mod Listing
pub mod ByFirst
