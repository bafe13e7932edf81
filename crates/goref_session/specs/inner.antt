-- Definitions for the contracts of private functions. No public contract cites them, so a reader who wants to
-- know what is promised can leave them out.
pub mod Current
pub mod Told
pub mod Wanting
pub mod Refusing
