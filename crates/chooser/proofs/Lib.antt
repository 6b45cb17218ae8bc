pub mod Folds
pub mod Right
pub mod Order
pub mod Answer
pub mod Same
