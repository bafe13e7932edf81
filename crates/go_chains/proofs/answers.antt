-- What a board answers to questions.
pub mod Queries
pub mod Dead
pub mod Rows
pub mod Packs
pub mod Codes
