pub mod Answer
pub mod Ends
pub mod Parts
pub mod Steps
pub mod Laws
