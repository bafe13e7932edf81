-- Words of private functions' contracts. No public contract cites them: a reader who wants to know what is promised can
-- leave them out.
pub mod Held
pub mod Trails
pub mod Histories
pub mod Building
pub mod Trials
pub mod Counters
pub mod Placed
