pub mod Choosing
pub mod Left
