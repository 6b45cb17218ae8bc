pub mod Standing
pub mod Changing
pub mod Sharing
pub mod Prefixes
pub mod Looking
pub mod Writing
pub mod Rows
