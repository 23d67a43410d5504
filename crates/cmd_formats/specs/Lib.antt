pub mod FormatsReport
pub mod FormatsLaws
pub mod AigerReport
pub mod AigerLaws
