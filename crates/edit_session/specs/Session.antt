-- A session of an editor: a tree that can be laid out, and the metrics of its font.
use Rattle.std.specs.Prelude.{◌≡◌, ◌≢◌, false, true, ℕ, List, Some, None, pos}
use Rattle.fixed_units.specs.declared.boxes.MathBox.{MathBox}
use Rattle.font_metrics.specs.Metrics.{MetricsValue}
use Rattle.math_tree.specs.Trees.{TreeValue}
use Rattle.tree_edits.specs.Edits.{edited, refusal_of}
use Rattle.tree_edits.specs.declared.edit.Edit.{Edit}
use Rattle.tree_edits.specs.declared.edit.EditRefusal.TheVariants.{Memory as OutOfMemory}
use Rattle.layout_model.specs.Layout.{is_tree_in_range, laid_tree, lay_tree}
use Rattle.outcome_cells.specs.Store.{StoreValue}
use Rattle.kept_results.specs.declared.memo.Memo.{Memo}
use Rattle.memo_tree.specs.Trees.{MemoTreeValue}
use Rattle.box_writer.specs.declared.placed.PlacedItem.{PlacedItem}
use Rattle.placement.specs.Placing.{placed}
use Rattle.edit_session.specs.declared.refusal.SessionRefusal.{SessionRefusal}
use Rattle.edit_session.specs.declared.refusal.SessionRefusal.TheVariants.{Edit as Refused, Range, Memory}

-- what a session holds: its tree, and the metrics of the font
pub record SessionValue : Type 0 where
  pub tree : TreeValue
  pub metrics : MetricsValue

-- the same, with the layouts that are kept, the store in which their cells lie, and how many cells
-- the last sweep left
pub record KeptSession : Type 0 where
  pub held : SessionValue
  pub memo : Memo
  pub store : StoreValue
  pub swept_cells : ℕ

-- the session of a tree with its kept layouts
abbrev pub session_of : MemoTreeValue → ℕ → KeptSession
session_of laid swept_cells = record {
  held = record { tree = laid.tree; metrics = laid.metrics };
  memo = laid.memo;
  store = laid.store;
  swept_cells = swept_cells;
}

-- the tree with its kept layouts that a session has
abbrev pub layouts_of : KeptSession → MemoTreeValue
layouts_of session = record {
  tree = session.held.tree;
  metrics = session.held.metrics;
  memo = session.memo;
  store = session.store;
}

-- every layout that is made of its tree can be stored
abbrev pub IsInRange : SessionValue → Type 0
IsInRange session = is_tree_in_range session.metrics session.tree ≡ true

-- the session over the edited tree
abbrev pub edited_session : SessionValue → Edit → SessionValue
edited_session session edit = record session { tree = edited session.tree edit }

-- the boxes and marks of the tree, from (0, 0)
abbrev pub page : SessionValue → List PlacedItem
page session = placed (laid_tree session.metrics session.tree) (pos 0) (pos 0)

-- the box of its root
abbrev pub root_box : SessionValue → MathBox
root_box session = (lay_tree session.metrics session.tree).answer.frame

-- when an edit is refused so: for the reason that there is in the tree, where the tree has one, and
-- for a size that is out of range only where it has none; want of memory has no cause here
abbrev pub IsCause : SessionValue → Edit → SessionRefusal → Type 0
IsCause session edit (Refused reason) = (refusal_of session.tree edit ≡ Some reason)
    × (reason ≢ OutOfMemory)
IsCause session edit Range =
    (refusal_of session.tree edit ≡ None)
    × (is_tree_in_range session.metrics (edited session.tree edit) ≡ false)
IsCause session edit Memory = Unit {0}
