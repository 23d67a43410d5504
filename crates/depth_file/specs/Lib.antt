pub mod AnswerLaws
pub mod EndLaws
pub mod Prefixes
pub mod JudgedLaws
pub mod BudgetReached
pub mod BudgetLaws
pub mod Stages
pub mod StageAnswers
