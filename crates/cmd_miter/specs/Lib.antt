pub mod MiterLaws
pub mod MiterReport
