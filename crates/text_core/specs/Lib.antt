pub mod Splits
pub mod Items
pub mod Limits
pub mod Lines
pub mod Numbers
pub mod ReadBack
pub mod Rest
pub mod Words
