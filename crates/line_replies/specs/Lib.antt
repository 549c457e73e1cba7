pub mod Replies
pub mod EditSteps
pub mod History
pub mod HistorySteps
pub mod HistoryParts
pub mod Opening
pub mod Sessions
