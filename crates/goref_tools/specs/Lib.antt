pub mod Tools
pub mod Tidying
pub mod Judging
