pub mod Elements
pub mod Hits
pub mod Running
pub mod Selecting
