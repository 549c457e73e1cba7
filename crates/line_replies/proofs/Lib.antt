pub mod EditSteps
pub mod Histories
mod Lines
pub mod Starting
mod Written
