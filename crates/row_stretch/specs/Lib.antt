pub mod Equation
pub mod Laws
pub mod Questions
