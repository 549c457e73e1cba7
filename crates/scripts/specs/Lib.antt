pub mod Beside
pub mod Kerns
pub mod Laws
pub mod Lengths
pub mod LimitGaps
pub mod Limits
pub mod Questions
pub mod Shifts
