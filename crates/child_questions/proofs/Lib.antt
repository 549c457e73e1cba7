mod Grids
pub mod Unstretched
mod Worked
