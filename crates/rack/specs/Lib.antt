pub mod Numbers
pub mod Shared
