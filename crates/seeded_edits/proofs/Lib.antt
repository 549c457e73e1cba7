mod Document
mod Row
mod Wrapping
pub mod Proper
mod Worked
