pub mod Numbered
pub mod ReadBack
