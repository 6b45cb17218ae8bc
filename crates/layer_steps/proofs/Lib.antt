pub mod Props
pub mod Over
pub mod Starting
pub mod Holding
pub mod Step
pub mod Placing
pub mod Closing
