pub mod Listing
pub mod Earlier
pub mod SeenChains
pub mod RowNumbers
pub mod Marking
pub mod Spaced
pub mod MarkBits
