mod Known
mod OnLiterals
mod Reading
mod Paths
-- for the crates above: the map over all elements is one change at the end of a way
pub mod OneElement
mod StandIn
mod Lines
mod Worked
-- what becomes of an element's children
pub mod Children
-- the elements of a tree in which one element is changed
pub mod Frames
-- at another level, and with ids that are given anew
pub mod Levels
pub mod Renumbered
-- the element that an edit names, among those of a tree
pub mod Target
-- elements of which some go and others come
pub mod Exchanges
pub mod Ids
pub mod FreeIds
-- how many elements and bytes there are after an edit, and of how many levels
pub mod Sizes
-- an edit that isn't refused leaves a whole tree
pub mod Refusals
pub mod Reached
pub mod ProperHeads
pub mod StaysWhole
-- a change that takes another back
pub mod Inverse
-- how much there is in an element, and new ids
mod Measuring
mod NewIds
mod Gathered
-- how many notes of which element stands over which there are
mod Noted
-- what planning an edit finds: the numbers of the edited tree, the change that the edit is, and the
-- first reason against it
mod Allowed
mod AttributeBytes
-- the edit that takes an edit back
mod WaysTo
mod Backs
mod PathEnds
mod EditedTotals
mod OneStep
mod FirstReason
mod PlanMade
-- what carrying it out takes gives the tree back
mod ThereAndBack
pub mod Inverses
pub mod Later
