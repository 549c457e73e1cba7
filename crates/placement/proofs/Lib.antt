pub mod Glyphs
mod Lent
pub mod Near
mod Reading
pub mod Showing
mod Worked
