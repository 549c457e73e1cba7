pub mod Numerals
pub mod Command
