-- The change that an edit is, at the end of a way.
use Rattle.std.proofs.Common.{◌≡◌, ◌∙◌, sym, ap, refl, subst, ℕ, List, [], ◌∷◌, ◌++◌, Option, Some, Result, Ok, Err}
use Rattle.std.proofs.lemmas.Option.{same_Some, slice_get_within}
use Rattle.std.specs.Result.{IfOk}
use Rattle.fixed_units.specs.declared.memory.Memory.{Memory}
use Rattle.math_tree.specs.Numbering.{renumbered}
use Rattle.math_tree.specs.Trees.{TreeValue}
use Rattle.math_tree.specs.declared.node.Node.{Node}
use Rattle.math_tree.specs.declared.node.NodeId.{NodeId}
use Rattle.tree_edits.proofs.Backs.{back_of, graft_back, insert_back, remove_back, replace_back, swap_back, text_back, value_back}
use Rattle.tree_edits.proofs.OneElement.{own_change_law, parent_change_law}
use Rattle.tree_edits.proofs.PathEnds.{EndsAt, ends_at}
use Rattle.tree_edits.specs.Edits.{edited}
use Rattle.tree_edits.specs.Paths.{node_at, changed, changed_at, FitsAt}
use Rattle.tree_edits.specs.Inverses.{edit_by, inverse, named_back}
use Rattle.tree_edits.specs.Planning.{Allows, GivesBack, IsStep, Makes, SetsValue, PutsIn}
use Rattle.tree_edits.specs.Undoing.{IsOrdered, inverse_of, room_for, undo_of}
use Rattle.tree_edits.specs.declared.change.Change.{Change}
use Rattle.tree_edits.specs.declared.change.Change.TheVariants.{SetText, Children}
use Rattle.tree_edits.specs.declared.edit.Edit.{Edit}
use Rattle.tree_edits.specs.declared.edit.Edit.TheVariants.{Text, Attr, Insert, Remove, Replace, Graft, Swap}
use Rattle.tree_edits.specs.declared.planning.Step.{Step}
use Rattle.tree_edits.specs.declared.undo.Undo.{Undo}
use Rattle.splices.specs.declared.splice.Splice.TheVariants.{Take, Swap as Exchange}

-- a change with its undo record is a step
pub is_step : (root : Node) (path : List ℕ) (change : Change) (undo : Undo) (back : NodeId) (found : Node) → FitsAt change path root
    → node_at path root ≡ Some found → IsOrdered change found → undo ≡ undo_of change (room_for change found) → back ≡ named_back change found
    → IsStep path change root (record { path = path; change = change; undo = undo; back = back })
is_step root path change undo back found fits at order is named =
    let same : found ≡ fits.element = same_Some found fits.element (sym at ∙ fits.at) in
    record {
      path_is = refl;
      change_is = refl;
      ready = record {
        fits = fits;
        order = subst (IsOrdered change) same order;
        undo_is = is ∙ ap (λ n. undo_of change (room_for change n)) same;
        back_is = named ∙ ap (named_back change) same;
      };
    }

-- a step makes what its change makes
pub made_by : (root after : Node) (path : List ℕ) (change : Change) (result : Result Step Memory) → after ≡ changed_at (changed change) path root
    → IfOk result (IsStep path change root) → IfOk result (Makes root after)
made_by root after path change (Ok step) is h = record { ready = h.ready; makes = rw (h.change_is, h.path_is) (sym is) }
made_by root after path change (Err e) is h = tt

-- and takes back what takes its change back
gives_by : (tree : TreeValue) (edit : Edit) (path : List ℕ) (change : Change) (element : Node) (step : Step) → node_at path tree.root ≡ Some element
    → ((room : ℕ) → back_of change room element ≡ inverse tree edit) → IsStep path change tree.root step → GivesBack tree edit step
gives_by tree edit path change element step at back h =
    let found = h.ready.fits.element in
    let same : element ≡ found = same_Some element found (sym at ∙ ap (λ p. node_at p tree.root) (sym h.path_is) ∙ h.ready.fits.at) in
    record {
      ready = h.ready;
      is =
          ap (edit_by (inverse_of step.change (room_for step.change found) found)) h.ready.back_is
          ∙ ap (λ c. back_of c (room_for step.change found) found) h.change_is
          ∙ ap (back_of change (room_for step.change found)) (sym same)
          ∙ back (room_for step.change found);
    }

pub gives_back : (tree : TreeValue) (edit : Edit) (path : List ℕ) (change : Change) (element : Node) (result : Result Step Memory)
    → node_at path tree.root ≡ Some element → ((room : ℕ) → back_of change room element ≡ inverse tree edit)
    → IfOk result (IsStep path change tree.root) → IfOk result (GivesBack tree edit)
gives_back tree edit path change element (Ok step) at back h = gives_by tree edit path change element step at back h
gives_back tree edit path change element (Err e) at back h = tt

module _ (tree : TreeValue) (path : List ℕ) (element : Node) where
  pub text_made : (id : NodeId) (text : List ℕ) → Allows (Text id text) tree path element
      → (edited tree (Text id text)).root ≡ changed_at (changed (SetText text)) path tree.root
  text_made id text allows = own_change_law tree (Text id text) path element allows.whole tt allows.at allows.has

  pub value_made : (id : NodeId) (name : List ℕ) (value : Option (List ℕ)) (at : Node) (change : Change) → Allows (Attr id name value) tree path element
      → SetsValue name value at change → (edited tree (Attr id name value)).root ≡ changed_at (changed change) path tree.root
  value_made id name value at change allows sets =
      rw sets.is (own_change_law tree (Attr id name value) path element allows.whole tt allows.at allows.has)

  pub child_made : (id : NodeId) (index : ℕ) (new child at : Node) (change : Change) → Allows (Insert id index new) tree path element
      → child ≡ renumbered tree.next_id new → PutsIn index child at change
      → (edited tree (Insert id index new)).root ≡ changed_at (changed change) path tree.root
  child_made id index new child at change allows is puts =
      rw (puts.is, is) (own_change_law tree (Insert id index new) path element allows.whole tt allows.at allows.has)

  pub graft_made : (id : NodeId) (index : ℕ) (new at : Node) (change : Change) → Allows (Graft id index new) tree path element
      → PutsIn index new at change → (edited tree (Graft id index new)).root ≡ changed_at (changed change) path tree.root
  graft_made id index new at change allows puts = rw puts.is (own_change_law tree (Graft id index new) path element allows.whole tt allows.at allows.has)

  -- ---- what takes it back

  pub text_given : (id : NodeId) (text : List ℕ) → Allows (Text id text) tree path element
      → (room : ℕ) → back_of (SetText text) room element ≡ inverse tree (Text id text)
  text_given id text allows room = text_back tree path element allows.whole allows.at id text room allows.has

  pub value_given : (id : NodeId) (name : List ℕ) (value : Option (List ℕ)) (at : Node) (change : Change) → Allows (Attr id name value) tree path element
      → SetsValue name value at change → (room : ℕ) → back_of change room element ≡ inverse tree (Attr id name value)
  value_given id name value at change allows sets room =
      rw sets.is (value_back tree path element allows.whole allows.at id name value sets.room room allows.has)

  pub child_given : (id : NodeId) (index : ℕ) (new child at : Node) (change : Change) → Allows (Insert id index new) tree path element
      → child ≡ renumbered tree.next_id new → PutsIn index child at change → (room : ℕ) → back_of change room element ≡ inverse tree (Insert id index new)
  child_given id index new child at change allows is puts room =
      rw (puts.is, is) (insert_back tree path element allows.whole allows.at id index new puts.room room)

  pub graft_given : (id : NodeId) (index : ℕ) (new at : Node) (change : Change) → Allows (Graft id index new) tree path element
      → PutsIn index new at change → (room : ℕ) → back_of change room element ≡ inverse tree (Graft id index new)
  graft_given id index new at change allows puts room =
      rw puts.is (graft_back tree path element allows.whole allows.at id index new puts.room room)

  -- ---- a change of the element over the one that is named

  module _ (front : List ℕ) (place : ℕ) (is : path ≡ front ++ (place ∷ [])) where
    over : node_at path tree.root ≡ Some element → EndsAt front place tree.root element
    over at = ends_at front place tree.root element (ap (λ p. node_at p tree.root) (sym is) ∙ at)

    pub taking_fits : (id : NodeId) → Allows (Remove id) tree path element → FitsAt (Children (Take place)) front tree.root
    taking_fits id allows =
        let parent = over allows.at in
        record { element = parent.parent; at = parent.at; fits = slice_get_within _ place element parent.there }

    pub taking_made : (id : NodeId) → Allows (Remove id) tree path element
        → (edited tree (Remove id)).root ≡ changed_at (changed (Children (Take place))) front tree.root
    taking_made id allows =
        let parent = over allows.at in
        parent_change_law tree (Remove id) front parent.parent place element allows.whole tt parent.at parent.there allows.has

    pub swapping_fits : (id : NodeId) (new child : Node) → Allows (Replace id new) tree path element → FitsAt (Children (Exchange place child)) front tree.root
    swapping_fits id new child allows =
        let parent = over allows.at in
        record { element = parent.parent; at = parent.at; fits = slice_get_within _ place element parent.there }

    pub swapping_made : (id : NodeId) (new child : Node) → Allows (Replace id new) tree path element → child ≡ renumbered tree.next_id new
        → (edited tree (Replace id new)).root ≡ changed_at (changed (Children (Exchange place child))) front tree.root
    swapping_made id new child allows child_is =
        let parent = over allows.at in
        rw child_is (parent_change_law tree (Replace id new) front parent.parent place element allows.whole tt parent.at parent.there allows.has)

    pub trading_fits : (id : NodeId) (new : Node) → Allows (Swap id new) tree path element → FitsAt (Children (Exchange place new)) front tree.root
    trading_fits id new allows =
        let parent = over allows.at in
        record { element = parent.parent; at = parent.at; fits = slice_get_within _ place element parent.there }

    pub trading_made : (id : NodeId) (new : Node) → Allows (Swap id new) tree path element
        → (edited tree (Swap id new)).root ≡ changed_at (changed (Children (Exchange place new))) front tree.root
    trading_made id new allows =
        let parent = over allows.at in
        parent_change_law tree (Swap id new) front parent.parent place element allows.whole tt parent.at parent.there allows.has

    -- what takes it back
    pub taking_given : (id : NodeId) (result : Result Step Memory) → Allows (Remove id) tree path element
        → IfOk result (IsStep front (Children (Take place)) tree.root) → IfOk result (GivesBack tree (Remove id))
    taking_given id result allows h =
        let parent = over allows.at in
        gives_back tree (Remove id) front (Children (Take place)) parent.parent result parent.at
        (λ room. remove_back tree path element allows.whole allows.at front place parent.parent is parent.at parent.there id room allows.has) h

    pub swapping_given : (id : NodeId) (new child : Node) (result : Result Step Memory) → Allows (Replace id new) tree path element
        → child ≡ renumbered tree.next_id new → IfOk result (IsStep front (Children (Exchange place child)) tree.root)
        → IfOk result (GivesBack tree (Replace id new))
    swapping_given id new child result allows child_is h =
        let parent = over allows.at in
        gives_back tree (Replace id new) front (Children (Exchange place child)) parent.parent result parent.at
        (λ room. rw child_is (replace_back tree path element allows.whole allows.at front place parent.parent is parent.at parent.there id new room allows.has)) h

    pub trading_given : (id : NodeId) (new : Node) (result : Result Step Memory) → Allows (Swap id new) tree path element
        → IfOk result (IsStep front (Children (Exchange place new)) tree.root) → IfOk result (GivesBack tree (Swap id new))
    trading_given id new result allows h =
        let parent = over allows.at in
        gives_back tree (Swap id new) front (Children (Exchange place new)) parent.parent result parent.at
        (λ room. swap_back tree path element allows.whole allows.at front place parent.parent is parent.at parent.there id new room allows.has) h
