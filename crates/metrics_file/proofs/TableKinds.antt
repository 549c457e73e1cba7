-- The kinds of tables by glyph: what is proved of each, and of all tables by it.
pub mod Kind
pub mod Variants
pub mod Parts
pub mod Kerns
pub mod Each
