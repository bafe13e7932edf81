pub mod Results
pub mod Diagrams
pub mod ChainLines
pub mod Places
pub mod Plays
pub mod Marks
pub mod inner
