mod CoordinateWords
mod DigitWords
pub mod Limits
mod Worked
