pub mod Counts
pub mod Drafts
