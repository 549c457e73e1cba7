-- What crates above name of edits and sweeps of kept layouts, handed on by its name: so they stand
-- on this crate alone.
pub use Rattle.kept_edits.specs.ByIds.{HasId, IdPair, IsEditAt, IsNeeded, IsOnPath, IsVisited, TakesNeeded}
pub use Rattle.kept_edits.specs.EditPaths.{IsEditPath}
pub use Rattle.kept_edits.specs.Need.{CameFrom}
pub use Rattle.kept_edits.specs.Passed.{TakesMissing}
pub use Rattle.kept_sweep.specs.Swept.{CountsNeeded, IsPartOf}
