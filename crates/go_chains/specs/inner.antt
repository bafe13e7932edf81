-- What serves private functions alone.
pub mod Tables
pub mod Steps
pub mod Writes
pub mod Edits
pub mod CellSteps
pub mod Beside
pub mod Traces
pub mod Marked
pub mod Codes
pub mod Quiet
pub mod Undoing
pub mod Rings
pub mod StoneRows
