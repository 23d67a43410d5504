mod Options
mod Pages
mod Runs
