-- What holds of memos that agree with their trees, and how passes end.
use Rattle.std.specs.Prelude.{◌≡◌, ℕ, Bool, true, not, ◌&&◌, List, []}
use Rattle.std.specs.List.{list_all}
use Rattle.font_metrics.specs.Metrics.{MetricsValue}
use Rattle.math_tree.specs.declared.node.Node.{Node}
use Rattle.layout_model.specs.declared.context.Context.{Context}
use Rattle.outcome_cells.specs.Store.{Runs}
use Rattle.kept_results.specs.Backed.{HaveOwnRuns, IsBacked}
use Rattle.kept_results.specs.Ends.{sealed, settled, stripped}
use Rattle.kept_results.specs.Kept.{Agrees, Holds, HoldsOne, is_marked}
use Rattle.kept_results.specs.Passes.{IsPairKept, Needs, Pair}
use Rattle.kept_results.specs.declared.memo.Entry.{Entry}
use Rattle.kept_results.specs.declared.memo.Memo.{Memo}
use Rattle.kept_results.specs.declared.memo.Memo.TheFolds.{fold-Memo}
use Rattle.kept_results.specs.declared.memo.Memo.TheOpen.{Memo-F}

-- all that the layout of a node in a context needs is kept
abbrev pub AllKept : MetricsValue → Node → Context → Memo → Type 0
AllKept m node context memo = (pair : Pair) → Needs m node context pair → IsPairKept memo pair

-- where the layout of the root is kept, so is all that it needs
abbrev pub KeptLaw : Type 0
KeptLaw = (m : MetricsValue) (node : Node) (memo : Memo) (context : Context) → Agrees m node memo
    → HoldsOne [] memo context → AllKept m node context memo

abbrev pub unmarked_layer : Memo-F Bool → Bool
unmarked_layer layer = not (is_marked layer) && list_all (λ below. below) layer.below

-- no element is marked
abbrev pub is_unmarked : Memo → Bool
is_unmarked memo = fold-Memo Bool unmarked_layer memo

-- an entry of the sealed memo is one of the memo that is no older one, fresh no more
pub record WasHeld (path : List ℕ) (memo : Memo) (entry : Entry) : Type 0 where
  pub former : Entry
  pub held : Holds path memo former
  pub is : entry ≡ settled former

-- after the seal the state is as before, just the entries that are no older ones are there, there
-- are no marks, and nothing is fresh
pub record Seals (m : MetricsValue) (node : Node) (memo : Memo) : Type 0 where
  pub agrees : Agrees m node (sealed memo)
  pub stays : (path : List ℕ) (entry : Entry) → Holds path memo entry
      → Holds path (sealed memo) (settled entry)
  pub was : (path : List ℕ) (entry : Entry) → Holds path (sealed memo) entry
      → WasHeld path memo entry
  pub unmarked : is_unmarked (sealed memo) ≡ true
  pub plain : stripped (sealed memo) ≡ sealed memo

abbrev pub SealLaw : Type 0
SealLaw = (m : MetricsValue) (node : Node) (memo : Memo) → Agrees m node memo → Seals m node memo

-- the seal leaves what the runs have of the memo's entries
abbrev pub SealBackedLaw : Type 0
SealBackedLaw = (m : MetricsValue) (runs : Runs) (node : Node) (memo : Memo)
    → IsBacked m runs node memo → IsBacked m runs node (sealed memo)

-- and no two that are left have one run, where no two had
abbrev pub SealOwnRunsLaw : Type 0
SealOwnRunsLaw = (memo : Memo) → HaveOwnRuns memo → HaveOwnRuns (sealed memo)
