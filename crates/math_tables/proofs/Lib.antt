pub mod Places
pub mod Tabular
pub mod Widest
pub mod Worked
