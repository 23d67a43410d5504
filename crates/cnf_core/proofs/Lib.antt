pub mod Pushed
pub mod Placing
