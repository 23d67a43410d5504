pub mod Small
pub mod Firsts
