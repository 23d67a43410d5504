pub mod Matched
pub mod Lacks
pub mod MatchedLaws
pub mod ByNamesLaws
pub mod ListedLaws
