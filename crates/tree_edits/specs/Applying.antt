-- An edit carried out on a tree, and what gives back the tree that was there before.
use Rattle.std.specs.Prelude.{◌≡◌, ◌⊎◌, ℕ, List, All, Some}
use Rattle.math_tree.specs.Trees.{TreeValue, IsProper, IsTotalled, listed}
use Rattle.math_tree.specs.declared.node.NodeId.{NodeId}
use Rattle.tree_edits.specs.Edits.{refusal_of}
use Rattle.tree_edits.specs.Paths.{changed_at, changed, FitsAt}
use Rattle.tree_edits.specs.declared.change.Change.{Change}
use Rattle.tree_edits.specs.declared.edit.Edit.{Edit}
use Rattle.tree_edits.specs.declared.edit.Edit.TheVariants.{Text, Attr, Insert, Remove, Replace, Graft, Swap}
use Rattle.tree_edits.specs.declared.edit.EditRefusal.{EditRefusal}
use Rattle.tree_edits.specs.declared.edit.EditRefusal.TheVariants.{Memory}

-- the element that an edit brings is proper, with all below it
abbrev pub IsProperEdit : Edit → Type 0
IsProperEdit (Text id text) = Unit {0}
IsProperEdit (Attr id name value) = Unit {0}
IsProperEdit (Insert id index element) = All IsProper (listed 1 element)
IsProperEdit (Remove id) = Unit {0}
IsProperEdit (Replace id element) = All IsProper (listed 1 element)
IsProperEdit (Graft id index element) = All IsProper (listed 1 element)
IsProperEdit (Swap id element) = All IsProper (listed 1 element)

-- the reason of a refusal: that of the definition, or want of memory
abbrev pub IsReason : TreeValue → Edit → EditRefusal → Type 0
IsReason tree edit reason = (reason ≡ Memory) ⊎ (refusal_of tree edit ≡ Some reason)

-- what an edit took: the change that undoes it, where that is made, the element that the edit names
-- which takes it back, and the next id and the totals that the tree had before
pub record TakenValue : Type 0 where
  pub path : List ℕ
  pub change : Change
  pub back : NodeId
  pub next_id : ℕ
  pub elements : ℕ
  pub bytes : ℕ

-- the tree that was there before
abbrev pub restored : TakenValue → TreeValue → TreeValue
restored taken tree = record {
  root = changed_at (changed taken.change) taken.path tree.root;
  next_id = taken.next_id;
}

-- what was taken fits the tree: there is such a place, and room for what is put back, which makes
-- a whole tree
pub record CanRestore (taken : TakenValue) (tree : TreeValue) : Type 0 where
  pub fits : FitsAt taken.change taken.path tree.root
  pub whole : IsTotalled (restored taken tree) taken.elements taken.bytes

-- it gives back the tree before
pub record Undoes (taken : TakenValue) (tree before : TreeValue) : Type 0 where
  pub can : CanRestore taken tree
  pub gives : restored taken tree ≡ before
