pub mod Letters
pub mod Lengths
pub mod Space
pub mod Token
pub mod Operator
pub mod Laws
