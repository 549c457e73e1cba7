pub mod Changes
pub mod Kept
pub mod Marks
pub mod Passing
pub mod Roots
mod Starting
