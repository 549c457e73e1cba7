use Rattle.std.proofs.Common.{◌≡◌, true, take}
use Rattle.kept_results.specs.Tidy.{has_none_fresh}
use Rattle.kept_results.proofs.entries.has_none_fresh.Given as goal

-- none of the first entries is fresh
abbrev pub invariant-loop-entry : goal.invariant-loop-entry
invariant-loop-entry l = has_none_fresh (take l.entry-index l.entries) ≡ true
