-- The change that an undo record makes undoes the one of which it is the record.
use Rattle.std.proofs.Common.{◌≡◌, ◌∙◌, sym, ap, refl, ℕ, Option, Some, option_map}
use Rattle.std.proofs.lemmas.Option.{same_Some}
use Rattle.math_tree.specs.Trees.{TreeValue, IsWhole, byte_count, element_count}
use Rattle.math_tree.specs.declared.node.Node.{Node}
use Rattle.tree_edits.proofs.Inverse.{undone_at, undo_fits_at}
use Rattle.tree_edits.specs.Applying.{TakenValue, Undoes, restored}
use Rattle.tree_edits.specs.Paths.{node_at, replaced_by}
use Rattle.tree_edits.specs.Inverses.{edit_by, inverse}
use Rattle.tree_edits.specs.Planning.{CanCarryOut, GivesBack, planned}
use Rattle.tree_edits.specs.Undoing.{completed, inverse_of, room_for, undo_of}
use Rattle.tree_edits.specs.declared.change.Change.{Change}
use Rattle.tree_edits.specs.declared.change.Change.TheVariants.{SetText, SetValue, Children}
use Rattle.tree_edits.specs.declared.change.Replaced.{Replaced}
use Rattle.tree_edits.specs.declared.edit.Edit.{Edit}
use Rattle.tree_edits.specs.declared.planning.EditPlan.{EditPlan}

-- what the record makes of what was replaced is the inverse
is_completed : (change : Change) (room : ℕ) (element : Node) → completed (undo_of change room) (replaced_by change element) ≡ Some (inverse_of change room element)
is_completed (SetText text) room element = refl
is_completed (SetValue name value own) room element = refl
is_completed (Children splice) room element = refl

-- ---- what a plan took

pub undoes : (tree : TreeValue) (plan : EditPlan) (replaced : Replaced) (back : Change) (taken : TakenValue) → CanCarryOut plan tree → IsWhole tree
    → option_map (replaced_by plan.step.change) (node_at plan.step.path tree.root) ≡ Some replaced → completed plan.step.undo replaced ≡ Some back
    → taken.path ≡ plan.step.path → taken.change ≡ back → taken.next_id ≡ tree.next_id
    → taken.elements ≡ element_count tree.root → taken.bytes ≡ byte_count tree.root → Undoes taken (planned plan tree) tree
undoes tree plan replaced back taken can whole was undoing path_is change_is next elements bytes =
    let change = plan.step.change in
    let path = plan.step.path in
    let fits = can.ready.fits in
    let room = room_for change fits.element in
    let there : replaced_by change fits.element ≡ replaced =
    same_Some (replaced_by change fits.element) replaced (ap (option_map (replaced_by change)) (sym fits.at) ∙ was) in
    let meant : taken.change ≡ inverse_of change room fits.element =
    change_is
    ∙ same_Some back (inverse_of change room fits.element)
    (sym undoing ∙ ap (λ u. completed u replaced) can.ready.undo_is ∙ ap (completed (undo_of change room)) (sym there) ∙ is_completed change room fits.element) in
    let root_is : (restored taken (planned plan tree)).root ≡ tree.root =
    rw (meant, path_is) (undone_at change path tree.root fits can.ready.order) in
    let same : restored taken (planned plan tree) ≡ tree =
    ap (λ n. record { root = n; next_id = taken.next_id }) root_is ∙ ap (λ (n : ℕ). record { root = tree.root; next_id = n }) next in
    record {
      can = record {
        fits = rw (meant, path_is) (undo_fits_at change path tree.root fits);
        whole = rw same (record { whole = whole; elements_are = elements; bytes_are = bytes });
      };
      gives = same;
    }

-- ---- as an edit

-- what was taken is the inverse of an edit, where the step gives that back
pub taken_back : (tree : TreeValue) (plan : EditPlan) (replaced : Replaced) (back : Change)
    → option_map (replaced_by plan.step.change) (node_at plan.step.path tree.root) ≡ Some replaced → completed plan.step.undo replaced ≡ Some back
    → (edit : Edit) → GivesBack tree edit plan.step → edit_by back plan.step.back ≡ inverse tree edit
taken_back tree plan replaced back was undoing edit gives =
    let change = plan.step.change in
    let fits = gives.ready.fits in
    let room = room_for change fits.element in
    let there : replaced_by change fits.element ≡ replaced =
    same_Some (replaced_by change fits.element) replaced (ap (option_map (replaced_by change)) (sym fits.at) ∙ was) in
    let meant : back ≡ inverse_of change room fits.element =
    same_Some back (inverse_of change room fits.element)
    (sym undoing ∙ ap (λ u. completed u replaced) gives.ready.undo_is ∙ ap (completed (undo_of change room)) (sym there) ∙ is_completed change room fits.element) in
    ap (λ c. edit_by c plan.step.back) meant ∙ gives.is
