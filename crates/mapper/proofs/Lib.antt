pub mod Lowest
pub mod Calling
