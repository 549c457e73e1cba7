-- for the crates above: induction over the children of a node, and an element before those below it
pub mod Nodes
-- for the crates above: the elements and the bytes in a node, from those in its children
pub mod Counts
-- for the crates above: attributes that are looked for, put in and taken out
pub mod Lists
pub mod Lookup
pub mod Puts
