pub mod Alike
pub mod Origins
pub mod Places
pub mod Splicing
mod Worked
