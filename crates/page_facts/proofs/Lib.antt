pub mod Assemblies
pub mod Order
pub mod Pages
pub mod Places
pub mod Sized
pub mod Sublists
