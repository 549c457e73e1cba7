-- What a ground tells, and what its calls do to it.
use Rattle.std.specs.Prelude.{◌≡◌, ◌≢◌, ℕ, ◌≤◌, ◌^◌, List, Bool, true, false, Some, None, Result, IfOk, OnOk, IfErr, OnErr}
use Rattle.font_metrics.specs.Metrics.{MetricsValue}
use Rattle.math_tree.specs.Trees.{TreeValue, IsWhole}
use Rattle.math_tree.specs.declared.node.Node.{Node}
use Rattle.tree_edits.specs.Edits.{edited, refusal_of}
use Rattle.tree_edits.specs.Inverses.{IsBack, inverse, with_next}
use Rattle.tree_edits.specs.declared.edit.Edit.{Edit}
use Rattle.tree_edits.specs.declared.edit.EditRefusal.TheVariants.{Memory as OutOfMemory}
use Rattle.box_writer.specs.declared.placed.PlacedItem.{PlacedItem}
use Rattle.edit_ring.specs.declared.ground.GroundRefusal.{GroundRefusal}
use Rattle.edit_ring.specs.declared.ground.GroundRefusal.TheVariants.{Edit as Refused, Range, Memory}

-- what a ground tells at a moment
pub record GroundTold : Type 0 where
  -- its tree and its metrics
  pub tree : TreeValue
  pub metrics : MetricsValue
  -- which trees are good, and the boxes and marks of each, by the root: a next id makes no
  -- difference
  pub is_good : Node → Bool
  pub boxes : Node → List PlacedItem

-- its tree is whole and good
pub record IsStanding (told : GroundTold) : Type 0 where
  pub whole : IsWhole told.tree
  pub good : told.is_good told.tree.root ≡ true

-- the ground over another tree
abbrev pub with_tree : TreeValue → GroundTold → GroundTold
with_tree tree told = record told { tree = tree }

-- which counts of steps, before and after, an edit that a tree takes may have, under these metrics
abbrev pub StepBound : Type 1
StepBound = MetricsValue → TreeValue → Edit → ℕ → ℕ → Type 0

-- a later next id makes no difference to those of an edit that gives no new ids
abbrev pub StepsByElements : StepBound → Type 0
StepsByElements Takes =
    (metrics : MetricsValue) (tree : TreeValue) (edit : Edit) (next from to : ℕ) →
    IsBack tree edit → tree.next_id ≤ next → next ≤ 2 ^ 32 →
    Takes metrics tree edit from to → Takes metrics (with_next next tree) edit from to

-- when an edit is refused so; want of memory has no cause here
abbrev pub IsCause : GroundTold → Edit → GroundRefusal → Type 0
IsCause told edit (Refused reason) =
    (refusal_of told.tree edit ≡ Some reason) × (reason ≢ OutOfMemory)
IsCause told edit Range =
    (refusal_of told.tree edit ≡ None) × (told.is_good (edited told.tree edit).root ≡ false)
IsCause told edit Memory = Unit {0}

-- an edit was carried out and its inverse answered, or it was refused for its cause
pub record Changes (Takes : StepBound) (before after : GroundTold) (edit : Edit)
    (steps_before steps_after : ℕ) (result : Result Edit GroundRefusal) : Type 0 where
  pub stood : IsStanding before
  pub stands : IsStanding after
  pub accepted : OnOk result (refusal_of before.tree edit ≡ None)
  pub edited : OnOk result (after ≡ with_tree (edited before.tree edit) before)
  pub back : IfOk result (λ back. back ≡ inverse before.tree edit)
  pub refused : IfErr result (IsCause before edit)
  pub unchanged : OnErr result (after ≡ before)
  pub steps : refusal_of before.tree edit ≡ None →
      Takes before.metrics before.tree edit steps_before steps_after
  pub unmade : refusal_of before.tree edit ≢ None → steps_after ≡ steps_before

-- the boxes and marks were shown
pub record Shows {E : Type 0} (before after : GroundTold)
    (result : Result (List PlacedItem) E) : Type 0 where
  pub stood : IsStanding before
  pub unchanged : after ≡ before
  pub boxes : IfOk result (λ boxes. boxes ≡ before.boxes before.tree.root)
