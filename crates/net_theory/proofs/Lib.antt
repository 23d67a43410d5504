pub mod PlainValues
pub mod LawProofs
