pub mod Laying
pub mod Spelled
pub mod Skipped
pub mod Paired
