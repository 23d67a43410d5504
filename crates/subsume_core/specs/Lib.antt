pub mod Units
pub mod UnitLaws
pub mod Inside
pub mod InsideLaws
