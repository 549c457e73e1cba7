use Rattle.std.proofs.Common.{◌≡◌, true, take}
use Rattle.kept_results.specs.Tidy.{has_none_new}
use Rattle.kept_results.proofs.entries.has_none_new.Given as goal

-- none of the first entries is new
abbrev pub invariant-loop-entry : goal.invariant-loop-entry
invariant-loop-entry l = has_none_new (take l.entry-index l.entries) ≡ true
