pub mod Plain
pub mod Sizes
