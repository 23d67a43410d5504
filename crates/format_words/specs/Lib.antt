pub mod FormatsAsked
pub mod WordsOf
