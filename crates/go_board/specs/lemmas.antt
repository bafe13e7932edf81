-- Lemmas for the proofs of the crates above.
pub mod Crossing
pub mod Writing
pub mod Reading
pub mod Numbers
pub mod Squares
pub mod Paths
pub mod PointSets
pub mod Rows
