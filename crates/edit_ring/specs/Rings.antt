-- A ring of inverse edits, the trees that they give, and what its calls do.
use Rattle.std.specs.Prelude.{◌≡◌, ◌≢◌, ◌↔◌, ◌⊎◌, ℕ, ◌+◌, ◌≤◌, List, [], ◌∷◌, length, take, Bool, true, Option, Some, None, Result, Err, OnOk, IfErr, OnErr, refl}
use Rattle.std.specs.Coded.{Coded, code_by, coded×, coded_list, coded_ℕ}
use Rattle.math_tree.specs.Trees.{TreeValue}
use Rattle.math_tree.specs.declared.node.Node.{Node}
use Rattle.tree_edits.specs.Edits.{edited, refusal_of}
use Rattle.tree_edits.specs.Inverses.{IsBack, inverse}
use Rattle.tree_edits.specs.contracts.edit.Edit as kept
use Rattle.tree_edits.specs.declared.edit.Edit.{Edit}
use Rattle.edit_ring.specs.Grounds.{GroundTold, IsCause, StepBound, with_tree}
use Rattle.edit_ring.specs.declared.ground.GroundRefusal.{GroundRefusal}
use Rattle.edit_ring.specs.declared.ring.RingRefusal.{RingRefusal}
use Rattle.edit_ring.specs.declared.ring.RingRefusal.TheVariants.{Nothing}

-- the ring as callers see it
pub record RingValue (G : Type 0) : Type 0 where
  pub base : G
  -- the inverses of the edits that can be undone, and of those that can be redone, the next first
  pub past : List Edit
  pub future : List Edit
  pub depth : ℕ

abbrev pub coded_edits : Coded (List Edit)
coded_edits = coded_list kept.the_row.coded

abbrev pub ring_code : {G : Type 0} → Coded G → Coded (RingValue G)
ring_code {G} base =
    code_by (G × (List Edit × (List Edit × ℕ)))
    (coded× base (coded× coded_edits (coded× coded_edits coded_ℕ)))
    (λ r. (r.base, (r.past, (r.future, r.depth))))
    (λ p. record { base = p.0; past = p.1.0; future = p.1.1.0; depth = p.1.1.1 }) (λ _. refl)

-- ---- the trees that a list of edits gives, one after another

-- each is told by its root
abbrev pub trail : TreeValue → List Edit → List Node
trail tree [] = []
trail tree (e ∷ es) = (edited tree e).root ∷ trail (edited tree e) es

-- each edit is taken by the tree before it, gives no new ids and leaves a good tree
abbrev pub IsTrail : (Node → Bool) → TreeValue → List Edit → Type 0
IsTrail is_good tree [] = Unit {0}
IsTrail is_good tree (e ∷ es) =
    IsBack tree e × (is_good (edited tree e).root ≡ true) × IsTrail is_good (edited tree e) es

-- both lists of inverses lead over good trees, and together they fit the depth
pub record IsRing (told : GroundTold) (past future : List Edit) (depth room : ℕ) : Type 0 where
  pub undoable : IsTrail told.is_good told.tree past
  pub redoable : IsTrail told.is_good told.tree future
  pub held : length past + length future ≤ depth
  pub some : 1 ≤ depth
  pub few : depth ≤ 1000
  pub same_room : room ≡ depth

-- ---- the history of a ring

-- what a ring tells at a moment
pub record RingState : Type 0 where
  pub told : GroundTold
  pub past : List Edit
  pub future : List Edit
  pub depth : ℕ

abbrev pub state_of : {G : Type 0} → (G → GroundTold) → RingValue G → RingState
state_of told ring =
    record { told = told ring.base; past = ring.past; future = ring.future; depth = ring.depth }

-- the trees that stood, the newest first, the present one, and those that were undone, the last one
-- first; a tree here is all its elements with their ids, which its root has
pub record History : Type 0 where
  pub past : List Node
  pub present : Node
  pub future : List Node

abbrev pub history_of : RingState → History
history_of state = record {
  past = trail state.told.tree state.past;
  present = state.told.tree.root;
  future = trail state.told.tree state.future;
}

-- an accepted edit: the present tree joins the past, of which so many are kept, and there is no
-- future
abbrev pub after_edit : ℕ → Node → History → History
after_edit depth tree history = record {
  past = take depth (history.present ∷ history.past);
  present = tree;
  future = [];
}

abbrev pub back_to : List Node → History → Option History
back_to [] history = None
back_to (tree ∷ past) history = Some (record {
  past = past;
  present = tree;
  future = history.present ∷ history.future;
})

abbrev pub forth_to : List Node → History → Option History
forth_to [] history = None
forth_to (tree ∷ future) history = Some (record {
  past = history.present ∷ history.past;
  present = tree;
  future = future;
})

-- the last past tree becomes the present one, which joins the future; and the way back
abbrev pub after_undo : History → Option History
after_undo history = back_to history.past history

abbrev pub after_redo : History → Option History
after_redo history = forth_to history.future history

-- ---- the calls

-- what a move along the first of two lists of inverses makes of the tree and of both lists
pub record Moved : Type 0 where
  pub tree : TreeValue
  pub from : List Edit
  pub to : List Edit

abbrev pub moved : TreeValue → List Edit → List Edit → Option Moved
moved tree [] to = None
moved tree (e ∷ es) to =
    Some (record { tree = edited tree e; from = es; to = inverse tree e ∷ to })

-- the steps that it may take: none, or those of its edit
abbrev pub TakesMove : StepBound → GroundTold → List Edit → ℕ → ℕ → Type 0
TakesMove Takes told [] from to = to ≡ from
TakesMove Takes told (e ∷ es) from to = (to ≡ from) ⊎ Takes told.metrics told.tree e from to

-- the ring after its first kept edit was made, where there is one
abbrev pub back_over : List Edit → RingState → Option RingState
back_over [] state = None
back_over (e ∷ es) state = Some (record state {
  told = with_tree (edited state.told.tree e) state.told;
  past = es;
  future = inverse state.told.tree e ∷ state.future;
})

abbrev pub forth_over : List Edit → RingState → Option RingState
forth_over [] state = None
forth_over (e ∷ es) state = Some (record state {
  told = with_tree (edited state.told.tree e) state.told;
  past = inverse state.told.tree e ∷ state.past;
  future = es;
})

abbrev pub undone : RingState → Option RingState
undone state = back_over state.past state

abbrev pub redone : RingState → Option RingState
redone state = forth_over state.future state

-- the ground was moved along the first list, or nothing changed
pub record Moves (Takes : StepBound) (before after : GroundTold)
    (from from_after to to_after : List Edit) (steps_before steps_after : ℕ)
    (result : Result (Unit {0}) RingRefusal) : Type 0 where
  pub ok : OnOk result (moved before.tree from to
      ≡ Some (record { tree = after.tree; from = from_after; to = to_after }))
  pub told : OnOk result (after ≡ with_tree after.tree before)
  pub next : OnOk result (after.tree.next_id ≡ before.tree.next_id)
  pub leads : OnOk result (IsTrail before.is_good after.tree from_after)
  pub leads_back : OnOk result (IsTrail before.is_good after.tree to_after)
  pub grown : OnOk result (trail after.tree to_after
      ≡ before.tree.root ∷ trail before.tree to)
  pub nothing : result ≡ Err Nothing ↔ (from ≡ [])
  pub unchanged : OnErr result ((after ≡ before) × (from_after ≡ from) × (to_after ≡ to))
  pub steps : TakesMove Takes before from steps_before steps_after

-- an edit was carried out, or refused for its cause
pub record RingEdits (Takes : StepBound) (before after : RingState) (edit : Edit)
    (steps_before steps_after : ℕ) (result : Result (Unit {0}) GroundRefusal) : Type 0 where
  pub accepted : OnOk result (refusal_of before.told.tree edit ≡ None)
  pub good : OnOk result (before.told.is_good (edited before.told.tree edit).root ≡ true)
  pub told : OnOk result (after.told ≡ with_tree (edited before.told.tree edit) before.told)
  pub past : OnOk result
      (after.past ≡ take before.depth (inverse before.told.tree edit ∷ before.past))
  pub future : OnOk result (after.future ≡ [])
  pub history : OnOk result (history_of after
      ≡ after_edit before.depth (edited before.told.tree edit).root (history_of before))
  pub depth : after.depth ≡ before.depth
  pub refused : IfErr result (IsCause before.told edit)
  pub unchanged : OnErr result (after ≡ before)
  pub steps : refusal_of before.told.tree edit ≡ None →
      Takes before.told.metrics before.told.tree edit steps_before steps_after
  pub unmade : refusal_of before.told.tree edit ≢ None → steps_after ≡ steps_before

-- an edit was undone or redone, or there was none, or memory was refused: `way` says what becomes
-- of the ring, `next` what becomes of its history
pub record RingMoves (Takes : StepBound) (way : RingState → Option RingState)
    (next : History → Option History) (before after : RingState) (kept : List Edit)
    (steps_before steps_after : ℕ) (result : Result (Unit {0}) RingRefusal) : Type 0 where
  pub state : OnOk result (way before ≡ Some after)
  pub history : OnOk result (next (history_of before) ≡ Some (history_of after))
  pub next_id : OnOk result (after.told.tree.next_id ≡ before.told.tree.next_id)
  pub nothing : result ≡ Err Nothing ↔ (next (history_of before) ≡ None)
  pub unchanged : OnErr result (after ≡ before)
  pub steps : TakesMove Takes before.told kept steps_before steps_after
