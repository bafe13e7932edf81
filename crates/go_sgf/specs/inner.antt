-- Words of private functions' contracts. No public contract cites them: a reader who wants to know what is promised can
-- leave them out.
pub mod Coded
pub mod Cooking
pub mod Few
pub mod Held
pub mod Outcome
pub mod Reads
pub mod Tidied
