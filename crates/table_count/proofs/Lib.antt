pub mod Standing
pub mod Counting
pub mod Members
pub mod Spans
