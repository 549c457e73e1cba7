pub mod Encoding
pub mod Found
pub mod Front
pub mod Left
pub mod OneOutcome
pub mod Sized
pub mod Worked
