pub mod AskedWishes
pub mod WishRuns
