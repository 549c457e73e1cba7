-- A tree of layouts that is read off kept ones.
use Rattle.std.specs.Prelude.{◌≡◌, ℕ, List, length, Some, slice_get}
use Rattle.fixed_units.specs.Sums.{list_to}
use Rattle.font_metrics.specs.Metrics.{MetricsValue}
use Rattle.math_tree.specs.declared.node.Node.{Node}
use Rattle.math_tree.specs.declared.node.Node.TheViews.{out-Node}
use Rattle.embellished.specs.Seen.{flow_nodes}
use Rattle.layout_model.specs.Laws.{laid_below}
use Rattle.layout_model.specs.Layout.{laid, somes}
use Rattle.layout_model.specs.declared.context.Question.{Question}
use Rattle.layout_model.specs.declared.laid.Laid.{Laid}
use Rattle.outcome_cells.specs.Store.{Runs}
use Rattle.kept_results.specs.Backed.{IsBacked}
use Rattle.kept_results.specs.Kept.{Agrees, IsKept}
use Rattle.kept_results.specs.declared.memo.Memo.{Memo}
use Rattle.kept_results.specs.declared.memo.Memo.TheViews.{out-Memo}
use Rattle.kept_laid.specs.declared.laid.KeptLayout.{KeptLayout}

-- there are metrics with which a memo agrees with its tree
pub record AgreesWithSome (node : Node) (memo : Memo) : Type 0 where
  pub metrics : MetricsValue
  pub agrees : Agrees metrics node memo

-- and some with which runs have its layouts too
pub record IsBackedWithSome (runs : Runs) (node : Node) (memo : Memo) : Type 0 where
  pub metrics : MetricsValue
  pub agrees : Agrees metrics node memo
  pub backed : IsBacked metrics runs node memo

-- the children in flow that are asked, each as the last question to it has it
abbrev pub kids_laid : MetricsValue → Node → List Question → List Laid
kids_laid m node asks = somes (list_to (length (flow_nodes node)) (laid_below m node asks))

-- a layout that is kept, as a fresh one gives it
abbrev pub laid_kid : MetricsValue → KeptLayout → Laid
laid_kid m kid = laid m kid.node.now kid.context.now

-- an element's child, with its memo, is kept in a context
pub record IsKid (node : Node) (memo : Memo) (kid : KeptLayout) : Type 0 where
  pub place : ℕ
  pub node_at : slice_get (out-Node node).children place ≡ Some kid.node.now
  pub memo_at : slice_get (out-Memo memo).below place ≡ Some kid.memo.now
  pub kept : IsKept (out-Memo kid.memo.now) kid.context.now

abbrev pub AreKids : Node → Memo → List KeptLayout → Type 0
AreKids node memo kids = (index : ℕ) (kid : KeptLayout) → slice_get kids index ≡ Some kid
    → IsKid node memo kid
