pub mod Coded
pub mod State
pub mod Searched
pub mod Outcomes
pub mod OutcomeLaws
pub mod Advancing
pub mod SearchedLaws
