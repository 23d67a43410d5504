pub mod MatchComparison
pub mod ListingLaws
pub mod OrderLaws
pub mod ReadingLaws
pub mod MatchComparisonLaws
