-- Reading the print of metrics gives the same metrics: from its words up to the whole.
mod Decimal
mod Codes
pub mod Choices
pub mod Joined
mod Feeds
pub mod Names
pub mod Printed
pub mod Fields
pub mod FieldWords
mod Taking
pub mod Following
mod Growing
pub mod Whole
