pub mod AigerLaws
