pub mod Bounds
pub mod Ink
pub mod Worked
