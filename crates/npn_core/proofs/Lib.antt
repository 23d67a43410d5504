pub mod Images
pub mod Tests
