pub mod Growing
pub mod Skipping
pub mod Whole
