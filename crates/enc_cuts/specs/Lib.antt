pub mod Formula
pub mod Vars
pub mod Counts
pub mod ChainLaws
pub mod LiteralLaws
pub mod PieceLaws
