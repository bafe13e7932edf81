pub mod Again
pub mod Judged
pub mod Whole
