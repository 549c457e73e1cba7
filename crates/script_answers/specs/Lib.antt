pub mod Script
pub mod Responders
pub mod Texts
pub mod Delivering
pub mod Lines
pub mod Steps
