pub mod Codes
pub mod CodeLaws
pub mod Propagation
pub mod PropagationLaws
pub mod Trails
pub mod TrailLaws
pub mod Resolving
pub mod ResolvingLaws
