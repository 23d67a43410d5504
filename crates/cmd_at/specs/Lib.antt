pub mod AtBits
pub mod AtLaws
pub mod AtReport
pub mod AtText
