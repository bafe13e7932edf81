pub mod Splits
pub mod Joins
pub mod Pieces
pub mod Pushes
pub mod FirstWords
pub mod Gathering
