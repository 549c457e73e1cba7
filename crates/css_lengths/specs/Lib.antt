pub mod Grammar
pub mod Lengths
pub mod Optional
