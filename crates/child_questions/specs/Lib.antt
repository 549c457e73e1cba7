pub mod Surveys
pub mod Grids
