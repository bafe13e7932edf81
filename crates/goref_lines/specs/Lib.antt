pub mod Kept
pub mod Words
pub mod Requests
pub mod Stones
pub mod inner
