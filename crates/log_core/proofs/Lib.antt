pub mod ReadNumbers
pub mod ReadLists
pub mod ReadRows
pub mod After
pub mod Taken
pub mod Shown
pub mod Spelled
mod Digits
