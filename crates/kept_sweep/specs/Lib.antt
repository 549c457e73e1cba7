pub mod Flagged
pub mod Laws
pub mod RunLaws
pub mod Runs
pub mod Swept
