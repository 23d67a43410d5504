pub mod Every
pub mod Items
