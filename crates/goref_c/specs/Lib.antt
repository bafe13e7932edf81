pub mod Calls
pub mod Devices
pub mod Ends
pub mod Files
pub mod NextGame
pub mod Sessions
pub mod Handles
