pub mod Calls
pub mod Opening
pub mod Closing
pub mod Accessing
