pub mod Lengths
pub mod Equation
pub mod Placing
pub mod Laws
