pub mod Lines
pub mod Queries
