pub mod Indices
pub mod Walks
pub mod Told
