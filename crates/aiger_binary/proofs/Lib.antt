pub mod Ends
pub mod Headers
pub mod OneMore
pub mod Powers
