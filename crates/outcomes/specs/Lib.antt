pub mod Corners
pub mod Elements
pub mod Outcomes
pub mod Reach
pub mod Rows
