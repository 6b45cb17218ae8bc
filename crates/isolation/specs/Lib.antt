pub mod Lists
pub mod Shielding
pub mod Promise
pub mod Example
