pub mod Boxes
pub mod Few
pub mod Laid
pub mod Last
pub mod Places
