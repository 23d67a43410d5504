pub mod Commands
pub mod Ends
pub mod Dispatching
pub mod Pairs
