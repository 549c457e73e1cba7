pub mod AreaLists
pub mod Between
pub mod Children
pub mod Elements
pub mod Hitting
pub mod Looking
pub mod Lowest
pub mod Marking
pub mod Selected
mod Worked
