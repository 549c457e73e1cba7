pub mod Sizes
pub mod Rules
pub mod Words
pub mod Styles
