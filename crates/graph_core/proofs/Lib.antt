pub mod Visits
pub mod CycleLemmas
