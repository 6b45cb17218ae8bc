pub mod Facts
pub mod Taking
pub mod Laws
pub mod Calls
pub mod Ranges
pub mod Made
