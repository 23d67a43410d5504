pub mod Forms
pub mod PlainLaws
pub mod FormLaws
