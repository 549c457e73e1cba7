pub mod Folded
pub mod Generated
pub mod Steps
