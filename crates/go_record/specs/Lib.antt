pub mod MainLine
pub mod Walks
pub mod Games
pub mod Verdicts
pub mod Records
pub mod Laws
pub mod Reasons
pub mod inner
