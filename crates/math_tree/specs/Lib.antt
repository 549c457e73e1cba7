pub mod Kinds
pub mod Forms
pub mod Attributes
pub mod Trees
pub mod Numbering
pub mod Laws
