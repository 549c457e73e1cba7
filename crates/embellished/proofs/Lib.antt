mod Keeping
pub mod Nodes
mod OnlyCore
pub mod InFlow
pub mod KnownFacts
pub mod FencePlaces
mod Scripts
pub mod ElementLaws
pub mod FlowLaws
pub mod CoreLaws
pub mod Stretching
mod Letters
mod Pieces
mod Worked
