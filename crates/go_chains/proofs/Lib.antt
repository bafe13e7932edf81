pub mod tables
pub mod writes
pub mod rules
pub mod answers
