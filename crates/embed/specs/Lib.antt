pub mod Calls
pub mod Desks
pub mod Frames
pub mod Kept
pub mod Laws
pub mod Owned
pub mod Status
