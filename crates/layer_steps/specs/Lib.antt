pub mod Tied
pub mod After
pub mod Holding
pub mod Freed
