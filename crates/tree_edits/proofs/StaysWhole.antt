-- An edit of a whole tree that isn't refused, and that brings proper elements, leaves a whole tree.
use Rattle.std.proofs.Common.{◌≡◌, ◌∙◌, sym, ap, refl, ℕ, ◌+◌, ◌^◌, ◌≤◌, ◌<◌, subst, List, [], ◌∷◌, length, slice_get, slice_set, All, Bool, true, false, nat_eq, nat_lt, Option, Some, None, arith, true≢false}
use Rattle.std.proofs.lemmas.Bool.{ltb-false, not-false, or_parts}
use Rattle.std.proofs.lemmas.List.Elements.{recursion_from_All, All-from_recursion}
use Rattle.std.proofs.lemmas.Option.{slice_get_within}
use Rattle.std.specs.List.{AllByRecursion, IsDistinct, insert, remove}
use Rattle.math_tree.specs.Forms.{most_levels, most_elements, most_bytes, is_name, is_short_enough}
use Rattle.math_tree.specs.Kinds.{is_text_kind}
use Rattle.math_tree.specs.Numbering.{renumbered}
use Rattle.math_tree.specs.Trees.{TreeValue, Listed, node, listed, ids_of, IsWhole, IsProper}
use Rattle.math_tree.specs.declared.node.Head.{Head}
use Rattle.math_tree.specs.declared.node.Node.{Node}
use Rattle.math_tree.specs.declared.node.NodeId.{NodeId}
use Rattle.tree_edits.proofs.Frames.{entry, head_rolled}
use Rattle.tree_edits.proofs.FreeIds.{AreFreeIds, free_ids}
use Rattle.tree_edits.proofs.Ids.{AreApart, distinct_exchanged, distinct_free, given_exchanged}
use Rattle.tree_edits.proofs.Levels.{bytes_in, ids_at, proper_at}
use Rattle.tree_edits.proofs.OneElement.{own_change_law, parent_change_law}
use Rattle.tree_edits.proofs.ProperHeads.{proper_attribute, proper_text, proper_children}
use Rattle.tree_edits.proofs.Reached.{ParentOf, reached, parent_of, root_keeps}
use Rattle.tree_edits.proofs.Refusals.{AcceptedBy, accepted}
use Rattle.tree_edits.proofs.Renumbered.{HasNewIds, new_ids, proper_renumbered}
use Rattle.tree_edits.proofs.Sizes.{text_exchanged, attribute_exchanged, insert_exchanged, graft_exchanged, remove_exchanged, replace_exchanged, swap_exchanged}
use Rattle.tree_edits.proofs.Exchanges.{Exchanged, all_exchanged, own_of_all}
use Rattle.tree_edits.proofs.Target.{found_at, is_below_the_root}
use Rattle.tree_edits.specs.Applying.{IsProperEdit}
use Rattle.tree_edits.specs.Edits.{named, has_id, head_of, with_text, with_attribute, added, edited, is_deep, at_target, is_in_text, is_not_text, refusal_of, target}
use Rattle.tree_edits.specs.Laws.{IsOwn, IsOfParent, own_change, parent_change}
use Rattle.tree_edits.specs.Paths.{children_of, node_at, changed}
use Rattle.tree_edits.specs.Reasons.{shown}
use Rattle.tree_edits.specs.declared.edit.Edit.{Edit}
use Rattle.tree_edits.specs.declared.edit.Edit.TheVariants.{Text, Attr, Insert, Remove, Replace, Graft, Swap}

-- ---- from the elements before and after

levels_within : (elements : List Listed) → is_deep elements ≡ false → AllByRecursion (λ e. e.level ≤ most_levels) elements
levels_within [] h = tt
levels_within (e ∷ elements) h =
    let parts = or_parts (nat_lt most_levels e.level) (is_deep elements) h in
    (ltb-false most_levels e.level parts.0, levels_within elements parts.1)

pub further : (bound more : ℕ) (ids : List ℕ) → AllByRecursion (λ n. n < bound) ids → AllByRecursion (λ n. n < bound + more) ids
further bound more [] h = tt
further bound more (id ∷ ids) h =
    let first = h.0 in
    (omega (arith, first), further bound more ids h.1)

-- what an edit brings is proper, the ids that there are then differ and were given, and it leaves
-- the root's name and id
record Fitting (tree : TreeValue) (edit : Edit) (own made : Listed) (gone new : List Listed) : Type 0 where
  exchange : Exchanged (listed 1 tree.root) (listed 1 (edited tree edit).root) own made gone new
  same : own.head.id.0 ≡ made.head.id.0
  here : IsProper own → IsProper made
  proper : AllByRecursion IsProper new
  distinct : IsDistinct nat_eq (ids_of (listed 1 (edited tree edit).root))
  given : AllByRecursion (λ n. n < tree.next_id + added edit) (ids_of new)
  name : (head_of (edited tree edit).root).name ≡ (head_of tree.root).name
  id : (head_of (edited tree edit).root).id.0 ≡ (head_of tree.root).id.0

fits_whole : (tree : TreeValue) (edit : Edit) (own made : Listed) (gone new : List Listed) → IsWhole tree → AcceptedBy tree edit
    → Fitting tree edit own made gone new → IsWhole (edited tree edit)
fits_whole tree edit own made gone new whole passes fitting =
    let before = listed 1 tree.root in
    let after = listed 1 (edited tree edit).root in
    let next = tree.next_id + added edit in
    let exchange = fitting.exchange in
    let proper = recursion_from_All IsProper before whole.proper in
    let given = recursion_from_All (λ n. n < tree.next_id) (ids_of before) whole.given in
    let large = or_parts (nat_lt most_elements (length after)) (nat_lt most_bytes (bytes_in after)) passes.small in
    record {
      name = fitting.name ∙ whole.name;
      first = fitting.id ∙ whole.first;
      proper = All-from_recursion IsProper after (all_exchanged exchange IsProper proper (fitting.here (own_of_all exchange IsProper proper)) fitting.proper);
      shallow = All-from_recursion (λ e. e.level ≤ most_levels) after (levels_within after passes.shallow);
      distinct = fitting.distinct;
      given = All-from_recursion (λ n. n < next) (ids_of after)
          (given_exchanged exchange fitting.same next (further tree.next_id (added edit) (ids_of before) given) fitting.given);
      next = ltb-false (2 ^ 32) next passes.left;
      few = ltb-false most_elements (length after) large.0;
      small = ltb-false most_bytes (bytes_in after) large.1;
    }

no_new_ids : (id count : ℕ) → HasNewIds id count []
unfolding IsDistinct
no_new_ids id count = record { distinct = tt; new = tt; given = tt }

-- new ids differ from all that there are
with_new : (tree : TreeValue) (edit : Edit) (own made : Listed) (gone new : List Listed) → IsWhole tree
    → Exchanged (listed 1 tree.root) (listed 1 (edited tree edit).root) own made gone new → own.head.id.0 ≡ made.head.id.0
    → HasNewIds tree.next_id (added edit) new → IsDistinct nat_eq (ids_of (listed 1 (edited tree edit).root))
with_new tree edit own made gone new whole exchange same ids =
    distinct_exchanged exchange same tree.next_id whole.distinct
    (recursion_from_All (λ n. n < tree.next_id) (ids_of (listed 1 tree.root)) whole.given) ids.distinct ids.new

-- and so do ids that are free
with_free : (tree : TreeValue) (edit : Edit) (own made : Listed) (gone new : List Listed) (ids : List ℕ) (next : ℕ) → IsWhole tree
    → Exchanged (listed 1 tree.root) (listed 1 (edited tree edit).root) own made gone new → own.head.id.0 ≡ made.head.id.0
    → AreFreeIds ids next (ids_of (listed 1 tree.root)) → ids ≡ ids_of new → IsDistinct nat_eq (ids_of (listed 1 (edited tree edit).root))
with_free tree edit own made gone new ids next whole exchange same free is =
    distinct_free exchange same whole.distinct (subst (IsDistinct nat_eq) is free.distinct) (subst (AreApart (ids_of (listed 1 tree.root))) is free.apart)

-- ---- at the element that is named

-- a test of the element that an edit names
test_at : (tree : TreeValue) (edit : Edit) (path : List ℕ) (element : Node) (test : Listed → Bool) → IsWhole tree
    → node_at path tree.root ≡ Some element → has_id (named edit) (head_of element) ≡ true
    → at_target test (target edit (listed 1 tree.root)) ≡ false → test (shown (1 + length path) element) ≡ false
test_at tree edit path element test whole at has h = sym (ap (at_target test) (found_at tree (named edit) path element whole at has)) ∙ h

module _ {X : Type 0} (part : Head → X) (tree : TreeValue) (edit : Edit) (path : List ℕ) (element : Node) (whole : IsWhole tree) (at : node_at path tree.root ≡ Some element) where
  own_root : IsOwn edit → has_id (named edit) (head_of element) ≡ true → (head : Head) (nodes : List Node)
      → changed (own_change edit tree.next_id) element ≡ node head nodes → part head ≡ part (head_of element)
      → part (head_of (edited tree edit).root) ≡ part (head_of tree.root)
  own_root is has head nodes gives keeps =
      let change = changed (own_change edit tree.next_id) in
      ap (λ n. part (head_of n)) (own_change_law tree edit path element whole is at has)
      ∙ root_keeps part path tree.root element change at (ap (λ n. part (head_of n)) gives ∙ ap part (head_rolled head nodes) ∙ keeps)

  root_over : IsOfParent edit → (place : ℕ) (child : Node) → slice_get (children_of element) place ≡ Some child → has_id (named edit) (head_of child) ≡ true
      → (nodes : List Node) → changed (parent_change edit tree.next_id place) element ≡ node (head_of element) nodes
      → part (head_of (edited tree edit).root) ≡ part (head_of tree.root)
  root_over is place child there has nodes gives =
      let change = changed (parent_change edit tree.next_id place) in
      ap (λ n. part (head_of n)) (parent_change_law tree edit path element place child whole is at there has)
      ∙ root_keeps part path tree.root element change at (ap (λ n. part (head_of n)) gives ∙ ap part (head_rolled (head_of element) nodes))

-- ---- each edit

module _ (tree : TreeValue) (path : List ℕ) (element : Node) (whole : IsWhole tree) (at : node_at path tree.root ≡ Some element) where
  abbrev level : ℕ
  level = 1 + length path

  abbrev nodes : List Node
  nodes = children_of element

  abbrev own : Listed
  own = shown level element

  text_whole : (id : NodeId) (text : List ℕ) → has_id id.0 (head_of element) ≡ true → AcceptedBy tree (Text id text)
      → IsWhole (edited tree (Text id text))
  text_whole id text has passes =
      let edit = Text id text in
      let head = with_text text (head_of element) in
      let made = entry level head (length nodes) in
      let is_text = not-false (is_text_kind (head_of element).kind) (test_at tree edit path element (is_not_text edit) whole at has passes.on_text) in
      let exchange = text_exchanged tree path element whole at id text has in
      let ids = no_new_ids tree.next_id 0 in
      fits_whole tree edit own made [] [] whole passes (record {
        exchange = exchange;
        same = refl;
        here = proper_text level (length nodes) (head_of element) text is_text (not-false (is_short_enough text) passes.short);
        proper = tt;
        distinct = with_new tree edit own made [] [] whole exchange refl ids;
        given = ids.given;
        name = own_root (λ (h : Head). h.name) tree edit path element whole at tt has head nodes refl refl;
        id = own_root (λ (h : Head). h.id.0) tree edit path element whole at tt has head nodes refl refl;
      })

  attribute_whole : (id : NodeId) (name : List ℕ) (value : Option (List ℕ)) → has_id id.0 (head_of element) ≡ true
      → AcceptedBy tree (Attr id name value) → IsWhole (edited tree (Attr id name value))
  attribute_whole id name value has passes =
      let edit = Attr id name value in
      let head = with_attribute name value (head_of element) in
      let made = entry level head (length nodes) in
      let exchange = attribute_exchanged tree path element whole at id name value has in
      let ids = no_new_ids tree.next_id 0 in
      fits_whole tree edit own made [] [] whole passes (record {
        exchange = exchange;
        same = refl;
        here = proper_attribute level (length nodes) (head_of element) name value (not-false (is_name name) passes.named) passes.short;
        proper = tt;
        distinct = with_new tree edit own made [] [] whole exchange refl ids;
        given = ids.given;
        name = own_root (λ (h : Head). h.name) tree edit path element whole at tt has head nodes refl refl;
        id = own_root (λ (h : Head). h.id.0) tree edit path element whole at tt has head nodes refl refl;
      })

  -- what is put in is proper at its level, with new ids
  new_proper : (new : Node) → All IsProper (listed 1 new) → AllByRecursion IsProper (listed (level + 1) (renumbered tree.next_id new))
  new_proper new h =
      let elements = listed (level + 1) (renumbered tree.next_id new) in
      recursion_from_All IsProper elements (proper_renumbered (level + 1) tree.next_id new (proper_at (level + 1) new h))

  insert_whole : (id : NodeId) (index : ℕ) (new : Node) → All IsProper (listed 1 new) → has_id id.0 (head_of element) ≡ true
      → AcceptedBy tree (Insert id index new) → IsWhole (edited tree (Insert id index new))
  insert_whole id index new brought has passes =
      let edit = Insert id index new in
      let child = renumbered tree.next_id new in
      let after = insert nodes index child in
      let made = entry level (head_of element) (length after) in
      let other : is_text_kind (head_of element).kind ≡ false = test_at tree edit path element (is_in_text edit) whole at has passes.in_other in
      let exchange = insert_exchanged tree path element whole at id index new has in
      let ids = new_ids (level + 1) tree.next_id new in
      fits_whole tree edit own made [] (listed (level + 1) child) whole passes (record {
        exchange = exchange;
        same = refl;
        here = proper_children level (length nodes) (length after) (head_of element) (λ is_text. absurd (true≢false (sym is_text ∙ other)));
        proper = new_proper new brought;
        distinct = with_new tree edit own made [] (listed (level + 1) child) whole exchange refl ids;
        given = ids.given;
        name = own_root (λ (h : Head). h.name) tree edit path element whole at tt has (head_of element) after refl refl;
        id = own_root (λ (h : Head). h.id.0) tree edit path element whole at tt has (head_of element) after refl refl;
      })

  -- an element with a child is no text element
  still_childless : (place : ℕ) (child : Node) (count : ℕ) → slice_get nodes place ≡ Some child
      → IsProper own → IsProper (entry level (head_of element) count)
  still_childless place child count there p =
      let near = slice_get_within nodes place child there in
      proper_children level (length nodes) count (head_of element) (λ is_text. let none = p.childless is_text in absurd (omega (arith, none, near))) p

  remove_whole : (id : NodeId) (place : ℕ) (child : Node) → slice_get (children_of element) place ≡ Some child → has_id id.0 (head_of child) ≡ true
      → AcceptedBy tree (Remove id) → IsWhole (edited tree (Remove id))
  remove_whole id place child there has passes =
      let edit = Remove id in
      let after = remove nodes place in
      let made = entry level (head_of element) (length after) in
      let exchange = remove_exchanged tree path element whole at id place child there has in
      let ids = no_new_ids tree.next_id 0 in
      fits_whole tree edit own made (listed (level + 1) child) [] whole passes (record {
        exchange = exchange;
        same = refl;
        here = still_childless place child (length after) there;
        proper = tt;
        distinct = with_new tree edit own made (listed (level + 1) child) [] whole exchange refl ids;
        given = ids.given;
        name = root_over (λ (h : Head). h.name) tree edit path element whole at tt place child there has after refl;
        id = root_over (λ (h : Head). h.id.0) tree edit path element whole at tt place child there has after refl;
      })

  replace_whole : (id : NodeId) (new : Node) → All IsProper (listed 1 new) → (place : ℕ) (child : Node) → slice_get (children_of element) place ≡ Some child
      → has_id id.0 (head_of child) ≡ true → AcceptedBy tree (Replace id new) → IsWhole (edited tree (Replace id new))
  replace_whole id new brought place child there has passes =
      let edit = Replace id new in
      let other = renumbered tree.next_id new in
      let after = slice_set nodes place other in
      let made = entry level (head_of element) (length after) in
      let exchange = replace_exchanged tree path element whole at id new place child there has in
      let ids = new_ids (level + 1) tree.next_id new in
      fits_whole tree edit own made (listed (level + 1) child) (listed (level + 1) other) whole passes (record {
        exchange = exchange;
        same = refl;
        here = still_childless place child (length after) there;
        proper = new_proper new brought;
        distinct = with_new tree edit own made (listed (level + 1) child) (listed (level + 1) other) whole exchange refl ids;
        given = ids.given;
        name = root_over (λ (h : Head). h.name) tree edit path element whole at tt place child there has after refl;
        id = root_over (λ (h : Head). h.id.0) tree edit path element whole at tt place child there has after refl;
      })

  -- ---- with ids of its own

  -- they are those at any level
  same_ids : (new : Node) → ids_of (listed 1 new) ≡ ids_of (listed (level + 1) new)
  same_ids new = ids_at (level + 1) new

  graft_whole : (id : NodeId) (index : ℕ) (new : Node) → All IsProper (listed 1 new) → has_id id.0 (head_of element) ≡ true
      → AcceptedBy tree (Graft id index new) → IsWhole (edited tree (Graft id index new))
  graft_whole id index new brought has passes =
      let edit = Graft id index new in
      let after = insert nodes index new in
      let made = entry level (head_of element) (length after) in
      let other : is_text_kind (head_of element).kind ≡ false = test_at tree edit path element (is_in_text edit) whole at has passes.in_other in
      let exchange = graft_exchanged tree path element whole at id index new has in
      let free = free_ids (ids_of (listed 1 new)) (tree.next_id + 0) (ids_of (listed 1 tree.root)) passes.free in
      fits_whole tree edit own made [] (listed (level + 1) new) whole passes (record {
        exchange = exchange;
        same = refl;
        here = proper_children level (length nodes) (length after) (head_of element) (λ is_text. absurd (true≢false (sym is_text ∙ other)));
        proper = recursion_from_All IsProper (listed (level + 1) new) (proper_at (level + 1) new brought);
        distinct = with_free tree edit own made [] (listed (level + 1) new) (ids_of (listed 1 new)) (tree.next_id + 0) whole exchange refl free (same_ids new);
        given = subst (AllByRecursion (λ n. n < tree.next_id + 0)) (same_ids new) free.given;
        name = own_root (λ (h : Head). h.name) tree edit path element whole at tt has (head_of element) after refl refl;
        id = own_root (λ (h : Head). h.id.0) tree edit path element whole at tt has (head_of element) after refl refl;
      })

  swap_whole : (id : NodeId) (new : Node) → All IsProper (listed 1 new) → (place : ℕ) (child : Node) → slice_get (children_of element) place ≡ Some child
      → has_id id.0 (head_of child) ≡ true → AcceptedBy tree (Swap id new) → IsWhole (edited tree (Swap id new))
  swap_whole id new brought place child there has passes =
      let edit = Swap id new in
      let after = slice_set nodes place new in
      let made = entry level (head_of element) (length after) in
      let exchange = swap_exchanged tree path element whole at id new place child there has in
      let free = free_ids (ids_of (listed 1 new)) (tree.next_id + 0) (ids_of (listed 1 tree.root)) passes.free in
      fits_whole tree edit own made (listed (level + 1) child) (listed (level + 1) new) whole passes (record {
        exchange = exchange;
        same = refl;
        here = still_childless place child (length after) there;
        proper = recursion_from_All IsProper (listed (level + 1) new) (proper_at (level + 1) new brought);
        distinct = with_free tree edit own made (listed (level + 1) child) (listed (level + 1) new) (ids_of (listed 1 new)) (tree.next_id + 0) whole exchange refl free (same_ids new);
        given = subst (AllByRecursion (λ n. n < tree.next_id + 0)) (same_ids new) free.given;
        name = root_over (λ (h : Head). h.name) tree edit path element whole at tt place child there has after refl;
        id = root_over (λ (h : Head). h.id.0) tree edit path element whole at tt place child there has after refl;
      })

-- ---- any edit

-- where the element that goes isn't the root, there is one over it
below_root : (path : List ℕ) (from child : Node) → (length path ≡ 0 → ⊥) → node_at path from ≡ Some child → ParentOf child from
below_root [] from child some at = absurd (some refl)
below_root (place ∷ path) from child some at = parent_of place path from child at

-- an element that may go has one over it
pub over_named : (tree : TreeValue) (edit : Edit) (path : List ℕ) (child : Node) → IsWhole tree → node_at path tree.root ≡ Some child
    → has_id (named edit) (head_of child) ≡ true → at_target (λ e. nat_eq e.level 1) (target edit (listed 1 tree.root)) ≡ false
    → ParentOf child tree.root
over_named tree edit path child whole at has movable =
    below_root path tree.root child (is_below_the_root path (test_at tree edit path child (λ e. nat_eq e.level 1) whole at has movable)) at

pub accepted_whole : (tree : TreeValue) (edit : Edit) → IsWhole tree → IsProperEdit edit → AcceptedBy tree edit → IsWhole (edited tree edit)
accepted_whole tree (Text id text) whole proper passes =
    let way = reached id.0 tree.root passes.known in
    text_whole tree way.path way.element whole way.at id text way.has passes
accepted_whole tree (Attr id name value) whole proper passes =
    let way = reached id.0 tree.root passes.known in
    attribute_whole tree way.path way.element whole way.at id name value way.has passes
accepted_whole tree (Insert id index new) whole proper passes =
    let way = reached id.0 tree.root passes.known in
    insert_whole tree way.path way.element whole way.at id index new proper way.has passes
accepted_whole tree (Remove id) whole proper passes =
    let way = reached id.0 tree.root passes.known in
    let over = over_named tree (Remove id) way.path way.element whole way.at way.has passes.movable in
    remove_whole tree over.path over.element whole over.at id over.place way.element over.there way.has passes
accepted_whole tree (Replace id new) whole proper passes =
    let way = reached id.0 tree.root passes.known in
    let over = over_named tree (Replace id new) way.path way.element whole way.at way.has passes.movable in
    replace_whole tree over.path over.element whole over.at id new proper over.place way.element over.there way.has passes
accepted_whole tree (Graft id index new) whole proper passes =
    let way = reached id.0 tree.root passes.known in
    graft_whole tree way.path way.element whole way.at id index new proper way.has passes
accepted_whole tree (Swap id new) whole proper passes =
    let way = reached id.0 tree.root passes.known in
    let over = over_named tree (Swap id new) way.path way.element whole way.at way.has passes.movable in
    swap_whole tree over.path over.element whole over.at id new proper over.place way.element over.there way.has passes

pub stays_whole : (tree : TreeValue) (edit : Edit) → IsWhole tree → IsProperEdit edit → refusal_of tree edit ≡ None → IsWhole (edited tree edit)
stays_whole tree edit whole proper none = accepted_whole tree edit whole proper (accepted tree edit none)
