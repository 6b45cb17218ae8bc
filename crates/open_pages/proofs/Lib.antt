pub mod Hanging
pub mod Way
pub mod Rows
