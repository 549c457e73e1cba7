pub mod Products
pub mod Rounding
pub mod Signed
pub mod Stored
pub mod Sums
pub mod Unions
pub mod Within
pub mod Worked
