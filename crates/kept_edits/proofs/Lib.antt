mod Alike
pub mod Backed
pub mod Backwards
pub mod Changing
pub mod Counting
pub mod EditEnds
pub mod EditWays
pub mod EditedTrees
pub mod Elements
pub mod Ended
pub mod Followed
pub mod IdWays
pub mod Lists
pub mod Needing
pub mod OnTheWay
pub mod OnePath
pub mod Origins
mod Restyled
pub mod Rooms
pub mod Runs
pub mod Tidying
pub mod ToldById
pub mod Undone
pub mod Unlaid
pub mod Ways
mod Worked
