pub mod Numbers
pub mod Walks
pub mod Layers
