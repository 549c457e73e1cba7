pub mod Words
pub mod Leaves
pub mod Spelling
pub mod Between
pub mod Worked
pub mod Middles
