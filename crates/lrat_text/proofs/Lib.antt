pub mod Entries
pub mod Prefixes
pub mod Judged
pub mod Marked
pub mod Written
