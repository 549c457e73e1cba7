pub mod Counted
pub mod Kept
pub mod Marked
pub mod Reversing
pub mod States
pub mod Trees
