pub mod Carrying
pub mod Counting
pub mod Finding
pub mod Pairs
mod Refused
pub mod Staying
pub mod Whole
