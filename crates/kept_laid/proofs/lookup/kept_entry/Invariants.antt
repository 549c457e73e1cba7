use Rattle.std.proofs.Common.{take}
use Rattle.kept_results.specs.Kept.{IsMissing, is_marked}
use Rattle.kept_results.specs.declared.memo.Memo.TheViews.{out-Memo}
use Rattle.kept_laid.proofs.lookup.kept_entry.Given as goal

-- the first entries aren't in this context
abbrev pub invariant-loop-entry : goal.invariant-loop-entry
invariant-loop-entry l = IsMissing (is_marked (out-Memo l.memo)) l.context (take l.entry-index l.entry-items)
