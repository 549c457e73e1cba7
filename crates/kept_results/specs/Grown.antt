-- How many cells a pass adds to a store.
use Rattle.std.specs.Prelude.{◌≡◌, ℕ, ◌+◌, true, List, length}
use Rattle.std.specs.List.{AllByRecursion, sum_by}
use Rattle.std.specs.Option.{option_map_or}
use Rattle.font_metrics.specs.Metrics.{MetricsValue}
use Rattle.math_tree.specs.declared.node.Node.{Node}
use Rattle.tree_edits.specs.Paths.{node_at}
use Rattle.layout_model.specs.Layout.{lay}
use Rattle.layout_model.specs.declared.context.Context.{Context}
use Rattle.box_pool.specs.Runs.{cell_count}
use Rattle.outcome_cells.specs.Cells.{outcome_cells}
use Rattle.outcome_cells.specs.Store.{Runs, StoreValue}
use Rattle.kept_results.specs.Backed.{Grows, HaveOwnRuns}
use Rattle.kept_results.specs.Passes.{HasNoRepeat, Needs, Pair, Passes}
use Rattle.kept_results.specs.declared.memo.Memo.{Memo}

-- how many cells the layout of a pair has: that of the element at its path, in its context. Where
-- no element is there, it has none
abbrev pub pair_cells : MetricsValue → Node → Pair → ℕ
pair_cells m node pair =
    option_map_or (λ element. length (outcome_cells (lay m element pair.context)))
    (node_at pair.path node) 0

-- as many runs came as there are pairs in a list without repeats, all of which are needed, and as
-- many cells as the layouts of these pairs have
pub record GrownByPairs (m : MetricsValue) (node : Node) (needed : Pair → Type 0)
    (before after : Runs) : Type 0 where
  pub pairs : List Pair
  pub needed_all : AllByRecursion needed pairs
  pub apart : HasNoRepeat pairs
  pub runs : length after ≡ length before + length pairs
  pub cells : cell_count after ≡ cell_count before + sum_by (pair_cells m node) pairs

-- a pass that is done adds the cells of what it was for alone, of no layout twice, where no two
-- entries had one run before it
abbrev pub GrownCellsLaw : Type 0
GrownCellsLaw = (m : MetricsValue) (node : Node) (context : Context) (before after : Memo)
    (held holds : StoreValue) (from to : ℕ)
    → HaveOwnRuns before
    → Passes m node (Needs m node context) before after from to true
    → Grows m node before after held holds from to true
    → GrownByPairs m node (Needs m node context) held.runs holds.runs
