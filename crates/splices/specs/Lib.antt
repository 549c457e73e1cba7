pub mod Laws
pub mod Splicing
