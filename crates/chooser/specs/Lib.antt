pub mod Preference
pub mod Gaps
pub mod Finding
pub mod Facts
