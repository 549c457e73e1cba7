pub mod Pairs
pub mod BuiltIn
pub mod Dictionary
pub mod Kept
