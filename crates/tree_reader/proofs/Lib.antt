pub mod Found
pub mod Items
pub mod Means
pub mod Members
pub mod More
pub mod Open
pub mod Puts
pub mod Shapes
