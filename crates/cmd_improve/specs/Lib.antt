pub mod ImproveLaws
pub mod ImprovePromise
pub mod ImproveReport
pub mod NamedLaws
pub mod NamedReport
pub mod Obligations
