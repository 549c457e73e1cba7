use Rattle.std.proofs.Common.{◌-◌}
use Rattle.kept_results.specs.Ends.{settled_all}
use Rattle.kept_results.proofs.Dropping.{Dropped}
use Rattle.kept_results.proofs.ends.drop_older.Given as goal

abbrev pub invariant-loop-step : goal.invariant-loop-step
invariant-loop-step l = Dropped (settled_all l.marked) l.fn.entries l.entries (l.count - l.step)
