pub mod Comparison
pub mod SmallLaws
pub mod ComparisonLaws
