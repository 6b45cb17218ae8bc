pub mod Entries
pub mod Held
pub mod Descriptors
pub mod Posted
