pub mod Clauses
pub mod Holds
pub mod Seen
pub mod ListLaws
pub mod RangeLaws
pub mod WithinLaws
pub mod WrittenLaws
pub mod CountLaws
