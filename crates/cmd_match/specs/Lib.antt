pub mod MatchReport
pub mod MatchLaws
