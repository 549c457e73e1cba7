-- for the crates above: what an answer unfolds to compute a tree from a literal text
pub mod OnLiterals
-- for the crates above: the members of an object as attributes
pub mod Members
-- for the crates above: what is read of an element, from what is read of those below it
pub mod ReadParts
pub mod Ordered
pub mod Whole
mod Worked
mod Items
mod Below
mod Listing
mod FirstFault
mod Entries
mod Proper
mod Firsts
mod Printing
mod Reread
mod RoundTrip
