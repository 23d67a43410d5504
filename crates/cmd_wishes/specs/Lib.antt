pub mod Replies
pub mod WishLaws
pub mod WishReport
