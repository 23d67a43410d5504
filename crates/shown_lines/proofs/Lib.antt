pub mod Replying
pub mod ShownSoFar
