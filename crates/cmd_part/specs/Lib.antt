pub mod JoinLaws
pub mod PartLaws
pub mod PartReport
