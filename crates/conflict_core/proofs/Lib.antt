pub mod Marking
pub mod Gathering
pub mod Resolvents
pub mod Shortening
pub mod Conflicts
pub mod Raising
pub mod Explaining
