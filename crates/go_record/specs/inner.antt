-- Definitions for the contracts of private functions. No public contract cites them, so a reader who wants to
-- know what is promised can leave them out.
pub mod Kinds
pub mod Progress
pub mod Texts
