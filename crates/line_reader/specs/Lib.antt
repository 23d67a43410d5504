pub mod TextLines
pub mod Closing
pub mod Splits
pub mod SplittingLaws
pub mod Reader
pub mod Seen
