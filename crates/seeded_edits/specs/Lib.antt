pub mod Draws
pub mod Start
pub mod Document
pub mod Edits
pub mod Summary
