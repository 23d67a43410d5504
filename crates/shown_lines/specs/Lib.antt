pub mod Shown
pub mod ShownLaws
pub mod ShownReport
pub mod ShownStages
