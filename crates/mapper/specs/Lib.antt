pub mod Tasks
pub mod Called
