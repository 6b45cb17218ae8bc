pub mod Buffers
pub mod Directions
pub mod Faults
pub mod Geometry
pub mod Holders
