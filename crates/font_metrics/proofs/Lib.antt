pub mod Places
pub mod Listed
pub mod Filled
mod Copies
pub mod Steps
pub mod Finish
pub mod Values
pub mod Scaling
pub mod Bounds
