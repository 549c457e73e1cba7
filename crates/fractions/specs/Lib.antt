pub mod Equation
pub mod Laws
pub mod Lengths
pub mod Placing
