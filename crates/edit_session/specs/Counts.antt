-- How many steps a session's calls take: these relations stand in the crates below, and are handed
-- on, so that what stands on a session doesn't stand on those crates.
pub use Rattle.memo_tree.specs.Kept.{TakesNeeded}
pub use Rattle.memo_tree.specs.Counted.{TakesVisits}
