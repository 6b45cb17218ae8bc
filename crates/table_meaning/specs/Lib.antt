pub mod Opened
pub mod Choosing
pub mod Starting
pub mod Coherent
pub mod Judging
