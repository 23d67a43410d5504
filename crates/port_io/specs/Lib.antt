pub mod Bytes
pub mod CountLaws
pub mod Faults
pub mod Memory
pub mod Ports
pub mod TextLaws
