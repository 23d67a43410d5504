pub mod Keeping
pub mod Rechecking
pub mod RecheckingDepth
pub mod RecheckingLong
