pub mod Elements
pub mod Keys
pub mod Faults
pub mod Reading
pub mod Parts
pub mod Laws
pub mod Print
