pub mod Part
pub mod Reaching
pub mod Facts
pub mod Verdicts
pub mod Lists
pub mod Unique
pub mod Keeping
pub mod Own
