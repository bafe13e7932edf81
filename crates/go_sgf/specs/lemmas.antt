-- Lemmas for the proofs of the crates above.
pub mod Records
