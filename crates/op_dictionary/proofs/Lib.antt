mod Worked
mod Keys
pub mod Same
mod Found
mod Lines
mod Triples
