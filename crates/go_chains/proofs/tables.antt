-- Tidy tables, and what the steps of a play do to them.
pub mod Rings
pub mod Tidy
pub mod Whole
pub mod Occupying
pub mod Joining
pub mod Connecting
pub mod Removing
pub mod Capturing
pub mod Taking
pub mod Playing
