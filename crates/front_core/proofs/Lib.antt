pub mod Certificates
pub mod Endings
pub mod Pairs
pub mod Words
