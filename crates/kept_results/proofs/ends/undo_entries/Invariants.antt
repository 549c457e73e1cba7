use Rattle.std.proofs.Common.{◌-◌}
use Rattle.kept_results.specs.Ends.{all_undone}
use Rattle.kept_results.proofs.Dropping.{Dropped}
use Rattle.kept_results.proofs.ends.undo_entries.Given as goal

abbrev pub invariant-loop-step : goal.invariant-loop-step
invariant-loop-step l = Dropped all_undone l.fn.entries l.entries (l.count - l.step)
