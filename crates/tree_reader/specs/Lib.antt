pub mod Keys
pub mod Read
pub mod Said
