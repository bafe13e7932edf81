pub mod Noting
pub mod Noted
pub mod Trees
pub mod Places
mod KeptEntries
mod Apart
