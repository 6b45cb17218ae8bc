pub mod Entries
pub mod Places
pub mod Removing
pub mod Running
pub mod Spans
