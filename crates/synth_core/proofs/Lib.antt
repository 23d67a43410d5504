pub mod InProgress
pub mod Used
pub mod DepthCertified
