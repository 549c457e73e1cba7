pub mod Glyphs
pub mod Counts
pub mod Pieces
pub mod Chains
pub mod Shaping
pub mod Targets
pub mod Laws
