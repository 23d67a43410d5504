mod Marking
mod Placings
mod Rebuilds
