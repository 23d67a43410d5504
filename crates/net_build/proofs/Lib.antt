pub mod Merged
pub mod Faults
pub mod Drivers
pub mod Names
pub mod Growths
pub mod Wholes
