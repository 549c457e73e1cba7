-- An edit as it is planned before it is carried out.
use Rattle.std.specs.Prelude.{◌≡◌, ℕ, ◌+◌, ◌≤◌, List, length, true, false, Option, Some, None}
use Rattle.splices.specs.declared.splice.Splice.TheVariants.{Put}
use Rattle.math_tree.specs.Forms.{most_levels}
use Rattle.math_tree.specs.Trees.{TreeValue, IsWhole, IsTotalled, listed}
use Rattle.math_tree.specs.declared.node.Node.{Node}
use Rattle.tree_edits.specs.Edits.{named, has_id, head_of, edited, is_taken, refusal_of}
use Rattle.tree_edits.specs.Inverses.{edit_by, inverse, named_back}
use Rattle.tree_edits.specs.Paths.{node_at, changed, changed_at, Fits, FitsAt}
use Rattle.tree_edits.specs.Reasons.{broken_limit, own_reason, shown}
use Rattle.tree_edits.specs.Sizes.{totals_of}
use Rattle.tree_edits.specs.Undoing.{IsOrdered, inverse_of, room_for, undo_of}
use Rattle.tree_edits.specs.declared.change.Change.{Change}
use Rattle.tree_edits.specs.declared.change.Change.TheVariants.{SetValue, Children}
use Rattle.tree_edits.specs.declared.edit.Edit.{Edit}
use Rattle.tree_edits.specs.declared.planning.Accepted.{Accepted}
use Rattle.tree_edits.specs.declared.planning.EditPlan.{EditPlan}
use Rattle.tree_edits.specs.declared.planning.Step.{Step}

-- a path leads to the element that an edit of a whole tree names, and no reason against the edit
-- lies in the edit and in that element
pub record Allows (edit : Edit) (tree : TreeValue) (path : List ℕ) (element : Node) : Type 0 where
  pub whole : IsWhole tree
  pub at : node_at path tree.root ≡ Some element
  pub has : has_id (named edit) (head_of element) ≡ true
  pub short : 1 + length path ≤ most_levels
  pub own : own_reason edit (shown (1 + length path) element) ≡ None

pub record IsAllowed (edit : Edit) (tree : TreeValue) (path : List ℕ) : Type 0 where
  pub element : Node
  pub allows : Allows edit tree path element

-- nothing is against the edit: no reason lies there, and the edited tree, of which these are the
-- numbers, breaks no limit; the ids that it keeps are free
pub record IsAccepted (tree : TreeValue) (edit : Edit) (accepted : Accepted) : Type 0 where
  pub element : Node
  pub allows : Allows edit tree accepted.path element
  pub totals_are : accepted.totals ≡ totals_of (edited tree edit)
  pub within :
      broken_limit accepted.totals.deep accepted.totals.size.elements accepted.totals.size.bytes
      accepted.totals.next_id ≡ None
  pub free : is_taken edit tree.next_id (listed 1 tree.root) ≡ false

-- ---- one step

-- the change can be carried out, and its undo record is there, with the element that the edit names
-- which takes it back
pub record IsReady (root : Node) (step : Step) : Type 0 where
  pub fits : FitsAt step.change step.path root
  pub order : IsOrdered step.change fits.element
  pub undo_is : step.undo ≡ undo_of step.change (room_for step.change fits.element)
  pub back_is : step.back ≡ named_back step.change fits.element

-- a step that is this change at the end of this path
pub record IsStep (path : List ℕ) (change : Change) (root : Node) (step : Step) : Type 0 where
  pub path_is : step.path ≡ path
  pub change_is : step.change ≡ change
  pub ready : IsReady root step

-- a step that makes another root of one
pub record Makes (root after : Node) (step : Step) : Type 0 where
  pub ready : IsReady root step
  pub makes : changed_at (changed step.change) step.path root ≡ after

-- the change that takes it back is the inverse of an edit
pub record GivesBack (tree : TreeValue) (edit : Edit) (step : Step) : Type 0 where
  pub ready : IsReady tree.root step
  pub is :
      edit_by
      (inverse_of step.change (room_for step.change ready.fits.element) ready.fits.element)
      step.back ≡ inverse tree edit

-- a change of an element that sets a value, and one that puts a child in
pub record SetsValue (name : List ℕ) (value : Option (List ℕ)) (element : Node)
    (change : Change) : Type 0 where
  pub room : ℕ
  pub is : change ≡ SetValue name value room
  pub fits : Fits change element

pub record PutsIn (index : ℕ) (child element : Node) (change : Change) : Type 0 where
  pub room : ℕ
  pub is : change ≡ Children (Put index child room)
  pub fits : Fits change element

-- ---- a plan

-- the tree that a plan makes of another
abbrev pub planned : EditPlan → TreeValue → TreeValue
planned plan tree = record {
  root = changed_at (changed plan.step.change) plan.step.path tree.root;
  next_id = plan.next_id;
}

-- it can be carried out, and makes a whole tree with the totals of the plan
pub record CanCarryOut (plan : EditPlan) (tree : TreeValue) : Type 0 where
  pub ready : IsReady tree.root plan.step
  pub totalled : IsTotalled (planned plan tree) plan.elements plan.bytes

-- the plan of an edit that isn't refused
pub record IsPlan (tree : TreeValue) (edit : Edit) (plan : EditPlan) : Type 0 where
  pub accepted : refusal_of tree edit ≡ None
  pub can : CanCarryOut plan tree
  pub makes : planned plan tree ≡ edited tree edit
  pub back : GivesBack tree edit plan.step
