pub mod Lines
pub mod Conversations
pub mod Progressing
pub mod Running
