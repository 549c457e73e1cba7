pub mod Farthest
pub mod Leaning
pub mod Moves
pub mod OnePair
pub mod Pairs
pub mod Placed
pub mod Worked
