pub mod Lowering
pub mod Pools
pub mod Choosing
pub mod Possible
pub mod Lawful
pub mod Lifting
pub mod Below
