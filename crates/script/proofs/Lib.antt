pub mod Encoded
pub mod Places
pub mod Turns
