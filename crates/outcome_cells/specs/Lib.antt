pub mod Cells
pub mod Laws
pub mod Parts
pub mod Reading
pub mod Store
