pub mod Ending
pub mod Loading
mod TwoParts
pub mod Answering
pub mod Steps
mod StepsTaken
mod Parts
mod Replying
mod RepliesLaws
mod Worked
