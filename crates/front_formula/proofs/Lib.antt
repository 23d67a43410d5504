pub mod Counting
pub mod Drafts
pub mod LogEnds
pub mod Options
pub mod Pairs
pub mod Performing
pub mod Runs
