pub mod Words
pub mod Clearing
pub mod Giving
pub mod Spans
