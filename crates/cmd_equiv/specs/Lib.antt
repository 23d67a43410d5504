pub mod EquivLaws
pub mod EquivPromise
pub mod EquivReport
pub mod Obligations
pub mod WithLaws
pub mod WithReport
