pub mod Walks
pub mod Layouts
pub mod Formulas
