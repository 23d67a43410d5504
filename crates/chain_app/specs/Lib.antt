pub mod Ending
pub mod KeepsPromises
pub mod RunPromise
pub mod Tasks
pub mod Pair
