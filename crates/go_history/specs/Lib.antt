pub mod Keys
pub mod Histories
pub mod inner
pub mod lemmas
