pub mod GenLaws
pub mod GenPromise
pub mod GenReport
pub mod Obligations
