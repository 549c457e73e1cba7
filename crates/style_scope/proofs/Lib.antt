pub mod Scales
pub mod Worked
