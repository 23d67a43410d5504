pub mod Prefixes
pub mod FenceLists
pub mod Going
pub mod After
pub mod StageAnswers
