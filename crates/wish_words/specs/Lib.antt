pub mod WishWords
pub mod Read
