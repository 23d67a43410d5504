pub mod FaultLine
pub mod Failing
pub mod Files
pub mod Names
pub mod Served
pub mod ServedLaws
pub mod Settling
pub mod Texts
