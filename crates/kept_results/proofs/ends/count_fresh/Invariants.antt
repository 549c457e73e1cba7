use Rattle.std.proofs.Common.{◌≡◌, ◌≤◌, filter, length, take}
use Rattle.kept_results.specs.Kept.{is_fresh}
use Rattle.kept_results.proofs.ends.count_fresh.Given as goal

-- those so far
abbrev pub invariant-loop-entry : goal.invariant-loop-entry
invariant-loop-entry l = (l.made ≡ length (filter is_fresh (take l.entry-index l.entries))) × (l.made ≤ l.entry-index)
