pub mod Along
pub mod Heights
pub mod Laws
pub mod Placing
