pub mod Continuing
mod Reading
pub mod StepsTaken
