pub mod Bodies
pub mod SameCovers
pub mod WrittenTables
pub mod SameDocuments
pub mod LeastTexts
