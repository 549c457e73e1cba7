pub mod Laws
pub mod Region
pub mod Runs
