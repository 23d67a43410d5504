pub mod Numbers
pub mod Ranges
pub mod Falls
pub mod Within
pub mod Choices
pub mod Counts
pub mod Formulas
