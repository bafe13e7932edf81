pub mod Status
pub mod Files
pub mod Tasks
