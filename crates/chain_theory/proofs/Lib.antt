pub mod PlainValues
pub mod PlainAgreement
mod PlainLevels
