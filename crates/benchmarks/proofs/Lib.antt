pub mod Numbers
mod Nets
mod There
