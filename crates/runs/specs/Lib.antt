pub mod Commands
pub mod Scripted
