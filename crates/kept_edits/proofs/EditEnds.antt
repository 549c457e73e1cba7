-- Where an edit ends, and what it brings there.
use Rattle.std.proofs.Common.{◌≡◌, ◌∙◌, refl, sym, ap, ℕ, zero, suc, ◌+◌, ◌<◌, Bool, true, false, nat_eq, true≢false, List, [], ◌∷◌, ◌||◌, None, Some, slice_get}
use Rattle.std.proofs.lemmas.Bool.{eqb-false, ne_eqb}
use Rattle.std.proofs.lemmas.List.Elements.{recursion_from_All}
use Rattle.std.proofs.lemmas.Option.{none-some, same_Some}
use Rattle.std.specs.List.{AllByRecursion, list_any}
use Rattle.math_tree.specs.Numbering.{renumbered}
use Rattle.math_tree.specs.Trees.{IsWhole, Listed, TreeValue, ids_of, listed}
use Rattle.math_tree.specs.declared.node.Node.{Node}
use Rattle.tree_edits.specs.Edits.{are_taken, edited, has_id, head_of, named, refusal_of}
use Rattle.tree_edits.specs.Laws.{IsOfParent, IsOwn, own_change, parent_change}
use Rattle.tree_edits.specs.Paths.{children_of, node_at}
use Rattle.tree_edits.specs.declared.edit.Edit.{Edit}
use Rattle.tree_edits.specs.declared.edit.Edit.TheVariants.{Text, Attr, Insert, Remove, Replace, Graft, Swap}
use Rattle.tree_edits.proofs.FreeIds.{free_ids}
use Rattle.tree_edits.proofs.Ids.{AreApart, apart_turned, higher_apart}
use Rattle.tree_edits.proofs.Refusals.{accepted}
use Rattle.tree_edits.proofs.Renumbered.{new_ids}
use Rattle.kept_edits.specs.ByIds.{BringsFree, HasId, IsEditAt}
use Rattle.kept_edits.specs.EditPaths.{IsEditPath, IsEnd}
use Rattle.kept_edits.specs.Edited.{with_room}
use Rattle.kept_edits.proofs.EditedTrees.{own_edit_law, parent_edit_law}

-- ---- the path

own_end : (edit : Edit) (element : Node) → IsOwn edit → has_id (named edit) (head_of element) ≡ true → IsEnd edit element
own_end (Text id text) element own has = has
own_end (Attr id name value) element own has = has
own_end (Insert id index new) element own has = has
own_end (Remove id) element own has = absurd own
own_end (Replace id new) element own has = absurd own
own_end (Graft id index new) element own has = has
own_end (Swap id new) element own has = absurd own

-- that to the element which an edit names
pub own_path : (tree : TreeValue) (edit : Edit) (path : List ℕ) (element : Node) → IsOwn edit → node_at path tree.root ≡ Some element
    → has_id (named edit) (head_of element) ≡ true → IsEditPath tree edit path
own_path tree edit path element own at has = record { element = element; at = at; ends = own_end edit element own has }

or_right : (b : Bool) → (b || true) ≡ true
or_right true = refl
or_right false = refl

child_has : (id : ℕ) (nodes : List Node) (place : ℕ) (child : Node) → slice_get nodes place ≡ Some child → has_id id (head_of child) ≡ true
    → list_any (λ n. has_id id (head_of n)) nodes ≡ true
child_has id [] place child at has = absurd (none-some child at)
child_has id (n ∷ nodes) zero child at has =
    ap (λ (b : Bool). b || list_any (λ n. has_id id (head_of n)) nodes) (ap (λ (n : Node). has_id id (head_of n)) (same_Some n child at) ∙ has)
child_has id (n ∷ nodes) (suc place) child at has =
    ap (λ (b : Bool). has_id id (head_of n) || b) (child_has id nodes place child at has) ∙ or_right (has_id id (head_of n))

over_end : (edit : Edit) (element : Node) (place : ℕ) (child : Node) → IsOfParent edit → slice_get (children_of element) place ≡ Some child
    → has_id (named edit) (head_of child) ≡ true → IsEnd edit element
over_end (Text id text) element place child over at has = absurd over
over_end (Attr id name value) element place child over at has = absurd over
over_end (Insert id index new) element place child over at has = absurd over
over_end (Remove id) element place child over at has = child_has id.0 (children_of element) place child at has
over_end (Replace id new) element place child over at has = child_has id.0 (children_of element) place child at has
over_end (Graft id index new) element place child over at has = absurd over
over_end (Swap id new) element place child over at has = child_has id.0 (children_of element) place child at has

-- that to the element over it
pub parent_path : (tree : TreeValue) (edit : Edit) (path : List ℕ) (element : Node) (place : ℕ) (child : Node) → IsOfParent edit
    → node_at path tree.root ≡ Some element → slice_get (children_of element) place ≡ Some child → has_id (named edit) (head_of child) ≡ true
    → IsEditPath tree edit path
parent_path tree edit path element place child over at there has = record { element = element; at = at; ends = over_end edit element place child over there has }

-- ---- free ids

turned : (a b : ℕ) → nat_eq a b ≡ false → nat_eq b a ≡ false
turned a b h = ne_eqb b a (λ same. eqb-false a b h (sym same))

-- an id that isn't among those of elements is that of none
not_held : (id : ℕ) (elements : List Listed) → AllByRecursion (λ held. nat_eq held id ≡ false) (ids_of elements)
    → list_any (λ e. has_id id e.head) elements ≡ true → ⊥
not_held id [] h any = true≢false (sym any)
not_held id (e ∷ elements) h any =
    not_held id elements h.1 (sym (ap (λ (b : Bool). b || list_any (λ (x : Listed). has_id id x.head) elements) h.0) ∙ any)

none_held : (tree : TreeValue) (ids : List ℕ) → AreApart ids (ids_of (listed 1 tree.root)) → AllByRecursion (λ id. HasId tree id → ⊥) ids
none_held tree [] h = tt
none_held tree (id ∷ ids) h = (not_held id (listed 1 tree.root) (by (ids_of (listed 1 tree.root)) h.0), none_held tree ids h.1)
  where
    by : (held : List ℕ) → AllByRecursion (λ n. nat_eq id n ≡ false) held → AllByRecursion (λ n. nat_eq n id ≡ false) held
    by [] h = tt
    by (n ∷ held) h = (turned id n h.0, by held h.1)

-- new ids are
new_free : (tree : TreeValue) (new : Node) → IsWhole tree → AllByRecursion (λ id. HasId tree id → ⊥) (ids_of (listed 1 (renumbered tree.next_id new)))
new_free tree new whole =
    none_held tree (ids_of (listed 1 (renumbered tree.next_id new)))
    (higher_apart tree.next_id (ids_of (listed 1 (renumbered tree.next_id new))) (ids_of (listed 1 tree.root)) (new_ids 1 tree.next_id new).new
    (recursion_from_All (λ n. n < tree.next_id) (ids_of (listed 1 tree.root)) whole.given))

-- and so are those that an edit may keep
kept_free : (tree : TreeValue) (new : Node) (next : ℕ) → are_taken (ids_of (listed 1 new)) next (ids_of (listed 1 tree.root)) ≡ false
    → AllByRecursion (λ id. HasId tree id → ⊥) (ids_of (listed 1 new))
kept_free tree new next free =
    let held = ids_of (listed 1 tree.root) in
    none_held tree (ids_of (listed 1 new)) (apart_turned held (ids_of (listed 1 new)) (free_ids (ids_of (listed 1 new)) next held free).apart)

pub own_brings : (tree : TreeValue) (edit : Edit) (element : Node) → IsWhole tree → refusal_of tree edit ≡ None → IsOwn edit
    → BringsFree tree (with_room (own_change edit tree.next_id) element)
own_brings tree (Text id text) element whole free own = tt
own_brings tree (Attr id name value) element whole free own = tt
own_brings tree (Insert id index new) element whole free own = new_free tree new whole
own_brings tree (Remove id) element whole free own = absurd own
own_brings tree (Replace id new) element whole free own = absurd own
own_brings tree (Graft id index new) element whole free own = kept_free tree new (tree.next_id + 0) (accepted tree (Graft id index new) free).free
own_brings tree (Swap id new) element whole free own = absurd own

pub parent_brings : (tree : TreeValue) (edit : Edit) (place : ℕ) → IsWhole tree → refusal_of tree edit ≡ None → IsOfParent edit
    → BringsFree tree (parent_change edit tree.next_id place)
parent_brings tree (Text id text) place whole free over = absurd over
parent_brings tree (Attr id name value) place whole free over = absurd over
parent_brings tree (Insert id index new) place whole free over = absurd over
parent_brings tree (Remove id) place whole free over = tt
parent_brings tree (Replace id new) place whole free over = new_free tree new whole
parent_brings tree (Graft id index new) place whole free over = absurd over
parent_brings tree (Swap id new) place whole free over = kept_free tree new (tree.next_id + 0) (accepted tree (Swap id new) free).free

-- ---- both

pub own_edit_at : (tree : TreeValue) (edit : Edit) (path : List ℕ) (element : Node) → IsWhole tree → IsWhole (edited tree edit) → refusal_of tree edit ≡ None → IsOwn edit
    → node_at path tree.root ≡ Some element → has_id (named edit) (head_of element) ≡ true
    → IsEditAt tree edit (with_room (own_change edit tree.next_id) element) path
own_edit_at tree edit path element whole after free own at has = record {
  whole = whole;
  whole_after = after;
  to_end = own_path tree edit path element own at has;
  is = own_edit_law tree edit path element whole free own at has;
  free = own_brings tree edit element whole free own;
}

pub parent_edit_at : (tree : TreeValue) (edit : Edit) (path : List ℕ) (element : Node) (place : ℕ) (child : Node) → IsWhole tree → IsWhole (edited tree edit)
    → refusal_of tree edit ≡ None → IsOfParent edit → node_at path tree.root ≡ Some element → slice_get (children_of element) place ≡ Some child → has_id (named edit) (head_of child) ≡ true
    → IsEditAt tree edit (parent_change edit tree.next_id place) path
parent_edit_at tree edit path element place child whole after free over at there has = record {
  whole = whole;
  whole_after = after;
  to_end = parent_path tree edit path element place child over at there has;
  is = parent_edit_law tree edit path element place child whole over at there has;
  free = parent_brings tree edit place whole free over;
}
