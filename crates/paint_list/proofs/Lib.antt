pub mod Counting
pub mod Glyphs
pub mod Plain
pub mod Running
pub mod Texts
mod Worked
