pub mod Based
pub mod BasedLaws
