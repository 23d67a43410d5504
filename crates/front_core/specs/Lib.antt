pub mod Asked
pub mod Certified
pub mod Front
pub mod Paired
