pub mod Said
pub mod Moves
