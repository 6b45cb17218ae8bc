pub mod Levels
pub mod Prefixes
pub mod Unfolding
pub mod Reaching
