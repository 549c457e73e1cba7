use Rattle.std.proofs.Common.{◌≡◌, ◌<◌, ℕ, Some, slice_get}
use Rattle.kept_results.specs.Looking.{CanServe}
use Rattle.kept_results.specs.declared.memo.Entry.{Entry}
use Rattle.kept_results.specs.declared.memo.Memo.TheViews.{out-Memo}
use Rattle.kept_results.proofs.earlier.find_earlier.Given as goal

-- none of the first entries can serve
abbrev pub invariant-loop-entry : goal.invariant-loop-entry
invariant-loop-entry l = (place : ℕ) (entry : Entry) → place < l.entry → slice_get (out-Memo l.memo).entries place ≡ Some entry
    → CanServe entry l.context l.child → ⊥
