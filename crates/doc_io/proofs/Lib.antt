pub mod Known
mod Windows
mod FirstLines
mod NextLines
pub mod LineLaws
pub mod Within
pub mod Cuts
pub mod MemoryFiles
pub mod MemoryCalls
pub mod Worked
pub mod SystemFiles
pub mod SystemWrites
pub mod Written
