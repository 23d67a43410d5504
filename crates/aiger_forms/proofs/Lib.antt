pub mod Binaries
