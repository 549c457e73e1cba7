pub mod Refusals
pub mod Counts
pub mod Session
pub mod Sweeping
pub mod Undoable
pub mod ByElements
