pub mod Lookups
pub mod Order
pub mod Places
pub mod Sweeping
pub mod Whole
