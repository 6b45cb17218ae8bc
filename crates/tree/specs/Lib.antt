pub mod Places
pub mod Layout
pub mod Counts
