pub mod Asks
pub mod Counts
pub mod Rows
pub mod SideBySide
pub mod Worked
