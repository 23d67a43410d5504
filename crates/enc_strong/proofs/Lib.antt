pub mod Tests
pub mod Walks
pub mod Within
pub mod Pieces
pub mod Formulas
