-- A tree with its kept layouts.
use Rattle.std.specs.Prelude.{◌≡◌, Bool, true, None}
use Rattle.fixed_units.specs.declared.boxes.MathBox.{MathBox}
use Rattle.font_metrics.specs.Metrics.{MetricsValue}
use Rattle.math_tree.specs.Trees.{IsWhole, TreeValue}
use Rattle.math_tree.specs.declared.node.Node.TheViews.{out-Node}
use Rattle.layout_model.specs.Layout.{is_tree_in_range, lay_tree, root_context}
use Rattle.layout_model.specs.declared.context.Context.{Context}
use Rattle.outcome_cells.specs.Store.{StoreValue}
use Rattle.kept_results.specs.Backed.{HaveOwnRuns, IsBacked}
use Rattle.kept_results.specs.declared.memo.Memo.{Memo}
use Rattle.kept_edits.specs.Need.{IsSealedFor}
use Rattle.kept_sweep.specs.Runs.{HaveOneRunEach}
use Rattle.kept_sweep.specs.Swept.{KeepsNeeded}

-- a tree, the metrics of a font with which it is laid out, what is kept of its layout, and the
-- store in which the cells of that lie
pub record MemoTreeValue : Type 0 where
  pub tree : TreeValue
  pub metrics : MetricsValue
  pub memo : Memo
  pub store : StoreValue

-- the context in which the root of a tree is laid out
abbrev pub context_of : MetricsValue → TreeValue → Context
context_of m tree = root_context m (out-Node tree.root).head

-- the run of each entry that is no older one has the cells of the layout of its element, as the
-- tree is now, and no two of these entries have one run
pub record HasRuns (laid : MemoTreeValue) : Type 0 where
  pub backed : IsBacked laid.metrics laid.store.runs laid.tree.root laid.memo
  pub own : HaveOwnRuns laid.memo

-- what is kept agrees with the tree, its cells are in the store, the layout of the root is among
-- it, and neither an edit nor a pass is under way; every layout that is made for the tree can be
-- stored
pub record IsLaidOut (laid : MemoTreeValue) : Type 0 where
  pub sealed : IsSealedFor laid.metrics laid.tree.root (context_of laid.metrics laid.tree) laid.memo
  pub has_runs : HasRuns laid
  pub idle : laid.store.checkpoint ≡ None
  pub fit : is_tree_in_range laid.metrics laid.tree ≡ true

-- exactly the layouts are kept that the one of the root needs, and the store has one run for each
-- and no other
pub record IsSwept (laid : MemoTreeValue) : Type 0 where
  pub needed : KeepsNeeded laid.metrics laid.tree.root (context_of laid.metrics laid.tree) laid.memo
  pub runs : HaveOneRunEach laid.store.runs laid.memo

-- the tree is whole; and where this is noted of its layouts, they are swept
pub record IsHeld (laid : MemoTreeValue) (swept : Bool) : Type 0 where
  pub whole : IsWhole laid.tree
  pub swept_are : swept ≡ true → IsSwept laid

-- the box of the root
abbrev pub root_box : MemoTreeValue → MathBox
root_box laid = (lay_tree laid.metrics laid.tree).answer.frame
