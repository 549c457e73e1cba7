pub mod Digits
pub mod Parts
pub mod Sizes
pub mod Worked
