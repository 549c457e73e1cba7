pub mod Alike
pub mod AllAsked
pub mod Asked
pub mod Carried
pub mod Cells
pub mod Children
pub mod Cornerless
pub mod Counted
pub mod Direction
pub mod Drawn
pub mod Fits
pub mod FontSizes
pub mod KidFonts
pub mod LaidTrees
pub mod LeftToRight
pub mod Made
pub mod Offsets
pub mod Places
mod PlainTables
mod Raised
pub mod Ranges
pub mod Replies
pub mod Spans
pub mod TableCells
pub mod Together
pub mod Told
pub mod Trees
pub mod TwoContexts
pub mod Waves
pub mod Whole
mod Worked
