-- Words of what a history keeps. No public contract cites them.
pub mod Trees
pub mod Entries
