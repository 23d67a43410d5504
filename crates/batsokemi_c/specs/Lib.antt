pub mod Called
pub mod CallLaws
pub mod Answering
pub mod CalledLaws
pub mod AnsweringLaws
pub mod PairLaws
