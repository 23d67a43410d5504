pub mod TablesOver
pub mod WrittenOver
pub mod AgainLaws
