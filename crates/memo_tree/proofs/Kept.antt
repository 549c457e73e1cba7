-- What proofs above name of edits and sweeps of kept layouts, handed on by its name.
pub use Rattle.kept_edits.proofs.IdWays.{made_at}
pub use Rattle.kept_sweep.proofs.Sweeping.{by_below}
pub use Rattle.kept_sweep.proofs.Totals.{count_sealed}
