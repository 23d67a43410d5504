pub mod NetLineLaws
pub mod NetLines
pub mod Answering
pub mod Runs
pub mod TableLineLaws
pub mod TableLines
