pub mod Laws
pub mod Paints
pub mod Pieces
pub mod Running
pub mod Svg
