-- The inverse of an edit is taken by the edited tree, and gives back the elements of before.
use Rattle.std.proofs.Common.{◌≡◌, ◌∙◌, sym, ap, refl, subst, ℕ, ◌+◌, ◌^◌, ◌≤◌, ◌<◌, List, [], ◌∷◌, ◌++◌, length, slice_get, slice_set, insert, remove, All, Bool, true, false, not, ◌&&◌, ◌||◌, cond, nat_eq, nat_lt, Option, Some, None, is_some, add-zero, arith, true≢false}
use Rattle.std.proofs.lemmas.Bool.{le-ltb, ltb-false, ne_eqb, not-false, or_from, false_from_ne_true}
use Rattle.std.proofs.lemmas.Bool.Decides.{Decides-eqb}
use Rattle.std.proofs.lemmas.List.Elements.{recursion_from_All}
use Rattle.std.proofs.lemmas.Option.{same_Some, slice_get_within}
use Rattle.std.specs.List.{AllByRecursion, IsDistinct}
use Rattle.std.specs.Option.{option_and_then, option_map_or}
use Rattle.std.specs.Str.{bytes_eq}
use Rattle.math_tree.specs.Attributes.{value_of}
use Rattle.math_tree.specs.Forms.{most_elements, most_bytes, is_name, is_short_enough}
use Rattle.math_tree.specs.Kinds.{is_text_kind}
use Rattle.math_tree.specs.Numbering.{renumbered}
use Rattle.math_tree.specs.Trees.{TreeValue, IsProper, IsProperAttribute, IsWhole, Listed, byte_count, element_count, ids_of, listed}
use Rattle.math_tree.specs.declared.attributes.Attribute.{Attribute}
use Rattle.math_tree.specs.declared.node.Head.{Head}
use Rattle.math_tree.specs.declared.node.Node.{Node}
use Rattle.math_tree.specs.declared.node.NodeId.{NodeId}
use Rattle.splices.proofs.Places.{insert_here, length_remove, set_here}
use Rattle.splices.specs.Splicing.{inverse as splice_back}
use Rattle.splices.specs.declared.site.Site.TheVariants.{Take as TakeAt, Swap as ExchangeAt}
use Rattle.splices.specs.declared.splice.Splice.TheVariants.{Put, Take, Swap as Exchange}
use Rattle.tree_edits.proofs.Children.{children_changed, id_stays}
use Rattle.tree_edits.proofs.Exchanges.{Exchanged, gone_of_all, own_of_all}
use Rattle.tree_edits.proofs.FirstReason.{taken_by}
use Rattle.tree_edits.proofs.Frames.{head_rolled}
use Rattle.tree_edits.proofs.FreeIds.{AreFreeIds, free_ids, not_taken}
use Rattle.tree_edits.proofs.Ids.{AreApart, all_after, apart_turned, gone_given, has_gone, higher_apart}
use Rattle.tree_edits.proofs.Inverse.{changed_nowhere, changed_there, changed_twice, undone}
use Rattle.tree_edits.proofs.Levels.{ids_at, proper_from}
use Rattle.tree_edits.proofs.OneElement.{own_change_law, parent_change_law}
use Rattle.tree_edits.proofs.PathEnds.{length_end}
use Rattle.tree_edits.proofs.ProperHeads.{first_value}
use Rattle.tree_edits.proofs.Reached.{ParentOf, reached}
use Rattle.tree_edits.proofs.Refusals.{AcceptedBy, accepted, accepts, all_fail, none_holds}
use Rattle.tree_edits.proofs.Renumbered.{head_renumbered, new_ids}
use Rattle.tree_edits.proofs.Sizes.{attribute_exchanged, remove_exchanged, replace_exchanged, shallow_tree, swap_exchanged, text_exchanged}
use Rattle.tree_edits.proofs.StaysWhole.{further, over_named, stays_whole}
use Rattle.tree_edits.proofs.Target.{found_at}
use Rattle.tree_edits.proofs.WaysTo.{child_in, child_is, element_is, node_at_end}
use Rattle.tree_edits.specs.Applying.{IsProperEdit}
use Rattle.tree_edits.specs.Edits.{named, has_id, head_of, added, edited, at_target, is_deep, is_fixed, is_in_text, is_large, is_long_value, is_not_text, is_past, is_taken, refusal_of, target, with_attribute, with_text}
use Rattle.tree_edits.specs.Inverses.{InverseLaw, IsBack, inverse, with_next}
use Rattle.tree_edits.specs.Paths.{children_of, node_at, changed, changed_at}
use Rattle.tree_edits.specs.Reasons.{own_reason, own_reasons, shown}
use Rattle.tree_edits.specs.Undoing.{inverse_of}
use Rattle.tree_edits.specs.declared.change.Change.{Change}
use Rattle.tree_edits.specs.declared.change.Change.TheVariants.{SetText, SetValue, Children}
use Rattle.tree_edits.specs.declared.edit.Edit.{Edit}
use Rattle.tree_edits.specs.declared.edit.Edit.TheVariants.{Text, Attr, Insert, Remove, Replace, Graft, Swap}

-- ---- an edit that gives back a root

-- what an edit of a tree would give back
abbrev pub GivesBefore : TreeValue → TreeValue → Edit → Type 0
GivesBefore before after back = IsBack after back × (edited after back ≡ with_next after.next_id before)

itself : (n : ℕ) → nat_eq n n ≡ true
itself n = (Decides-eqb n n).1 refl

large_none : (tree : TreeValue) → IsWhole tree → is_large (listed 1 tree.root) ≡ false
large_none tree whole =
    or_from (nat_lt most_elements (element_count tree.root)) (nat_lt most_bytes (byte_count tree.root))
    (le-ltb most_elements (element_count tree.root) whole.few) (le-ltb most_bytes (byte_count tree.root) whole.small)

module _ (before after : TreeValue) (whole : IsWhole before) (whole_after : IsWhole after) where
  -- it names an element, nothing there is against it, and it gives the root of before
  gives_before : (back : Edit) (path : List ℕ) (element : Node) → node_at path after.root ≡ Some element → has_id (named back) (head_of element) ≡ true
      → own_reason back (shown (1 + length path) element) ≡ None → added back ≡ 0 → IsProperEdit back
      → (edited after back).root ≡ before.root → is_taken back after.next_id (listed 1 after.root) ≡ false
      → GivesBefore before after back
  gives_before back path element at has own settled proper root free =
      let here = shown (1 + length path) element in
      let found = found_at after (named back) path element whole_after at has in
      let tests = all_fail (own_reasons back here) own in
      let same = ap (λ n. listed 1 n) root in
      let bound : after.next_id + added back ≤ 2 ^ 32 = omega (arith, settled, whole_after.next) in (
        record {
          proper = proper;
          settled = settled;
          accepted = accepts after back (record {
            known = ap is_some found;
            on_text = ap (at_target (is_not_text back)) found ∙ tests.0;
            in_other = ap (at_target (is_in_text back)) found ∙ tests.1.0;
            within = ap (at_target (is_past back)) found ∙ tests.1.1.0;
            movable = ap (at_target (is_fixed back)) found ∙ tests.1.1.1.0;
            named = tests.1.1.1.1.0;
            short = tests.1.1.1.1.1.0;
            shallow = ap is_deep same ∙ shallow_tree before whole;
            small = ap is_large same ∙ large_none before whole;
            left = le-ltb (2 ^ 32) (after.next_id + added back) bound;
            free = taken_by back after.next_id (listed 1 after.root) ∙ free;
          });
        },
        ap (λ (n : Node). record { root = n; next_id = after.next_id + added back }) root
            ∙ ap (λ (n : ℕ). record { root = before.root; next_id = n }) (ap (λ n. after.next_id + n) settled ∙ add-zero after.next_id),
      )

-- a change, and another of what it makes that leaves the element as it was, leave the root
led_back : (root after element : Node) (path : List ℕ) (f g : Node → Node) → node_at path root ≡ Some element → after ≡ changed_at f path root
    → g (f element) ≡ element → changed_at g path after ≡ root
led_back root after element path f g at made stays =
    ap (changed_at g path) made ∙ changed_twice f g path root ∙ changed_nowhere (λ n. g (f n)) path root element at stays

-- the element there
now_there : (root after element : Node) (path : List ℕ) (f : Node → Node) → node_at path root ≡ Some element → after ≡ changed_at f path root
    → node_at path after ≡ Some (f element)
now_there root after element path f at made = ap (node_at path) made ∙ changed_there f path root element at

keeps_id : (id : ℕ) (change : Change) (element : Node) → has_id id (head_of element) ≡ true → has_id id (head_of (changed change element)) ≡ true
keeps_id id change element has = ap (λ n. nat_eq n id) (id_stays change element) ∙ has

-- ---- texts and values

not_not : (b : Bool) → b ≡ true → not b ≡ false
not_not b h = ap not h

short_by : (b : Bool) (value : List ℕ) (found : Option (List ℕ)) → is_short_enough value ≡ true → is_long_value found ≡ false
    → is_long_value (cond b (Some value) found) ≡ false
short_by true value found short rest = not_not (is_short_enough value) short
short_by false value found short rest = rest

value_short : (name : List ℕ) (xs : List Attribute) → AllByRecursion IsProperAttribute xs → is_long_value (value_of name xs) ≡ false
value_short name [] h = refl
value_short name (x ∷ xs) h =
    ap is_long_value (first_value name x xs)
    ∙ short_by (bytes_eq x.name name) x.value (value_of name xs) h.0.value (value_short name xs h.1)

-- ---- each edit

module _ (tree : TreeValue) (whole : IsWhole tree) where
  text_law : (id : NodeId) (text : List ℕ) → refusal_of tree (Text id text) ≡ None → GivesBefore tree (edited tree (Text id text)) (inverse tree (Text id text))
  text_law id text free =
      let edit = Text id text in
      let after = edited tree edit in
      let passes = accepted tree edit free in
      let way = reached id.0 tree.root passes.known in
      let element = way.element in
      let change = SetText text in
      let old = (head_of element).text in
      let back = Text id old in
      let now = changed change element in
      let whole_after = stays_whole tree edit whole tt free in
      let made = own_change_law tree edit way.path element whole tt way.at way.has in
      let at = now_there tree.root after.root element way.path (changed change) way.at made in
      let has = keeps_id id.0 change element way.has in
      let exchange = text_exchanged tree way.path element whole way.at id text way.has in
      let own = own_of_all exchange IsProper (recursion_from_All IsProper (listed 1 tree.root) whole.proper) in
      let found = found_at tree id.0 way.path element whole way.at way.has in
      let on_text : not (is_text_kind (head_of element).kind) ≡ false = sym (ap (at_target (is_not_text edit)) found) ∙ passes.on_text in
      let kind : (head_of now).kind ≡ (head_of element).kind = ap (λ (h : Head). h.kind) (head_rolled (with_text text (head_of element)) (children_of element)) in
      let reasons = none_holds (own_reasons back (shown (1 + length way.path) now))
      (ap (λ k. not (is_text_kind k)) kind ∙ on_text, (refl, (refl, (refl, (refl, (not_not (is_short_enough old) own.text, tt)))))) in
      let root = own_change_law after back way.path now whole_after tt at has
      ∙ led_back tree.root after.root element way.path (changed change) (changed (SetText old)) way.at made (undone element change 0 tt tt) in
      let is : back ≡ inverse tree edit = sym (ap (λ o. Text id (option_map_or (λ e. (head_of e).text) o [])) (element_is tree id.0 way.path element whole way.at way.has)) in
      subst (GivesBefore tree after) is (gives_before tree after whole whole_after back way.path now at has reasons refl tt root refl)

  value_law : (id : NodeId) (name : List ℕ) (value : Option (List ℕ)) → refusal_of tree (Attr id name value) ≡ None
      → GivesBefore tree (edited tree (Attr id name value)) (inverse tree (Attr id name value))
  value_law id name value free =
      let edit = Attr id name value in
      let after = edited tree edit in
      let passes = accepted tree edit free in
      let way = reached id.0 tree.root passes.known in
      let element = way.element in
      let attributes = (head_of element).attributes in
      let change = SetValue name value (length attributes + 1) in
      let old = value_of name attributes in
      let back = Attr id name old in
      let now = changed change element in
      let whole_after = stays_whole tree edit whole tt free in
      let made = own_change_law tree edit way.path element whole tt way.at way.has in
      let at = now_there tree.root after.root element way.path (changed change) way.at made in
      let has = keeps_id id.0 change element way.has in
      let exchange = attribute_exchanged tree way.path element whole way.at id name value way.has in
      let own = own_of_all exchange IsProper (recursion_from_All IsProper (listed 1 tree.root) whole.proper) in
      let reasons = none_holds (own_reasons back (shown (1 + length way.path) now))
      (refl, (refl, (refl, (refl, (passes.named, (value_short name attributes (recursion_from_All IsProperAttribute attributes own.attributes), tt)))))) in
      let root = own_change_law after back way.path now whole_after tt at has
      ∙ led_back tree.root after.root element way.path (changed change) (changed (SetValue name old 0)) way.at made (undone element change 0 (omega arith) own.order) in
      let is : back ≡ inverse tree edit =
      sym (ap (λ o. Attr id name (option_and_then (λ e. value_of name (head_of e).attributes) o)) (element_is tree id.0 way.path element whole way.at way.has)) in
      subst (GivesBefore tree after) is (gives_before tree after whole whole_after back way.path now at has reasons refl tt root refl)

  -- ---- a child that was put in is removed

  removes : (edit : Edit) (path : List ℕ) (element child : Node) (index : ℕ) → IsWhole (edited tree edit) → node_at path tree.root ≡ Some element
      → index ≤ length (children_of element) → (edited tree edit).root ≡ changed_at (changed (Children (Put index child 0))) path tree.root
      → GivesBefore tree (edited tree edit) (Remove (head_of child).id)
  removes edit path element child index whole_after at within made =
      let after = edited tree edit in
      let change = Children (Put index child (length (children_of element) + 1)) in
      let now = changed change element in
      let back = Remove (head_of child).id in
      let over = now_there tree.root after.root element path (changed change) at made in
      let there = ap (λ nodes. slice_get nodes index) (children_changed change element) ∙ insert_here (children_of element) index child within in
      let has = itself (head_of child).id.0 in
      let down = node_at_end path index after.root now child over there in
      let below : nat_eq (1 + length (path ++ (index ∷ []))) 1 ≡ false = ne_eqb (1 + length (path ++ (index ∷ []))) 1 (λ same. omega (arith, same, length_end path index)) in
      let reasons = none_holds (own_reasons back (shown (1 + length (path ++ (index ∷ []))) child)) (refl, (refl, (refl, (below, (refl, (refl, tt)))))) in
      let root = parent_change_law after back path now index child whole_after tt over there has
      ∙ led_back tree.root after.root element path (changed change) (changed (Children (Take index))) at made (undone element change 0 (within, omega arith) tt) in
      gives_before tree after whole whole_after back (path ++ (index ∷ [])) child down has reasons refl tt root refl

  within : (edit : Edit) (path : List ℕ) (element : Node) (index : ℕ) → node_at path tree.root ≡ Some element → has_id (named edit) (head_of element) ≡ true
      → at_target (is_past edit) (target edit (listed 1 tree.root)) ≡ false → is_past edit (shown (1 + length path) element) ≡ nat_lt (length (children_of element)) index
      → index ≤ length (children_of element)
  within edit path element index at has h is =
      ltb-false (length (children_of element)) index (sym is ∙ sym (ap (at_target (is_past edit)) (found_at tree (named edit) path element whole at has)) ∙ h)

  insert_law : (id : NodeId) (index : ℕ) (new : Node) → All IsProper (listed 1 new) → refusal_of tree (Insert id index new) ≡ None
      → GivesBefore tree (edited tree (Insert id index new)) (inverse tree (Insert id index new))
  insert_law id index new proper free =
      let edit = Insert id index new in
      let passes = accepted tree edit free in
      let way = reached id.0 tree.root passes.known in
      let child = renumbered tree.next_id new in
      subst (GivesBefore tree (edited tree edit)) (ap (λ (h : Head). Remove h.id) (head_renumbered tree.next_id new))
      (removes edit way.path way.element child index (stays_whole tree edit whole proper free) way.at (within edit way.path way.element index way.at way.has passes.within refl)
      (own_change_law tree edit way.path way.element whole tt way.at way.has))

  graft_law : (id : NodeId) (index : ℕ) (new : Node) → All IsProper (listed 1 new) → refusal_of tree (Graft id index new) ≡ None
      → GivesBefore tree (edited tree (Graft id index new)) (inverse tree (Graft id index new))
  graft_law id index new proper free =
      let edit = Graft id index new in
      let passes = accepted tree edit free in
      let way = reached id.0 tree.root passes.known in
      removes edit way.path way.element new index (stays_whole tree edit whole proper free) way.at (within edit way.path way.element index way.at way.has passes.within refl)
      (own_change_law tree edit way.path way.element whole tt way.at way.has)

  -- ---- ids of what was taken out

  free_again : (after : TreeValue) (child : Node) (own made : Listed) (level : ℕ) (new : List Listed) (next : ℕ)
      → (exchange : Exchanged (listed 1 tree.root) (listed 1 after.root) own made (listed level child) new) → own.head.id.0 ≡ made.head.id.0
      → AreApart (ids_of new) (ids_of (listed level child)) → tree.next_id ≤ next
      → AreFreeIds (ids_of (listed 1 child)) next (ids_of (listed 1 after.root))
  free_again after child own made level new next exchange same come le =
      let gone = ids_of (listed level child) in
      let part = has_gone exchange same whole.distinct in
      let all : AllByRecursion (λ n. n < tree.next_id) (ids_of (listed 1 tree.root)) = recursion_from_All (λ n. n < tree.next_id) (ids_of (listed 1 tree.root)) whole.given in
      let given = gone_given exchange same (λ n. n < tree.next_id) all in
      let apart : AreApart (ids_of (listed 1 after.root)) gone = all_after exchange same (λ x. AllByRecursion (λ y. nat_eq x y ≡ false) gone) part.apart come in
      rw (ids_at level child) (record { distinct = part.distinct; given = later gone given; apart = apart })
    where
      later : (ns : List ℕ) → AllByRecursion (λ n. n < tree.next_id) ns → AllByRecursion (λ n. n < next) ns
      later [] h = tt
      later (n ∷ ns) h = let first = h.0 in (omega (arith, first, le), later ns h.1)

  proper_child : (after : TreeValue) (child : Node) (own made : Listed) (level : ℕ) (new : List Listed)
      → Exchanged (listed 1 tree.root) (listed 1 after.root) own made (listed level child) new → All IsProper (listed 1 child)
  proper_child after child own made level new exchange =
      proper_from level child (gone_of_all exchange IsProper (recursion_from_All IsProper (listed 1 tree.root) whole.proper))

  -- ---- an element that was taken out comes back

  remove_law : (id : NodeId) → refusal_of tree (Remove id) ≡ None → GivesBefore tree (edited tree (Remove id)) (inverse tree (Remove id))
  remove_law id free =
      let edit = Remove id in
      let after = edited tree edit in
      let passes = accepted tree edit free in
      let way = reached id.0 tree.root passes.known in
      let child = way.element in
      let over = over_named tree edit way.path child whole way.at way.has passes.movable in
      let parent = over.element in
      let nodes = children_of parent in
      let place = over.place in
      let level = 1 + length over.path + 1 in
      let change = Children (Take place) in
      let now = changed change parent in
      let back = Graft (head_of parent).id place child in
      let near = slice_get_within nodes place child over.there in
      let whole_after = stays_whole tree edit whole tt free in
      let made = parent_change_law tree edit over.path parent place child whole tt over.at over.there way.has in
      let at = now_there tree.root after.root parent over.path (changed change) over.at made in
      let has = keeps_id (head_of parent).id.0 change parent (itself (head_of parent).id.0) in
      let exchange = remove_exchanged tree over.path parent whole over.at id place child over.there way.has in
      let own = own_of_all exchange IsProper (recursion_from_All IsProper (listed 1 tree.root) whole.proper) in
      let other : is_text_kind (head_of parent).kind ≡ false = false_from_ne_true (is_text_kind (head_of parent).kind) (λ is_text. let none = own.childless is_text in omega (arith, none, near)) in
      let head : head_of now ≡ head_of parent = head_rolled (head_of parent) (remove nodes place) in
      let count : length (children_of now) ≡ length (remove nodes place) = ap length (children_changed change parent) in
      let past : nat_lt (length (children_of now)) place ≡ false = le-ltb (length (children_of now)) place (omega (arith, count, length_remove nodes place near, near)) in
      let reasons = none_holds (own_reasons back (shown (1 + length over.path) now)) (refl, (ap (λ (h : Head). is_text_kind h.kind) head ∙ other, (past, (refl, (refl, (refl, tt)))))) in
      let again : changed (Children (splice_back (TakeAt place) (slice_get nodes place) 0)) now ≡ changed (Children (Put place child 0)) now =
      ap (λ o. changed (Children (splice_back (TakeAt place) o 0)) now) over.there in
      let root = own_change_law after back over.path now whole_after tt at has
      ∙ led_back tree.root after.root parent over.path (changed change) (changed (Children (Put place child 0))) over.at made (sym again ∙ undone parent change 0 near tt) in
      let unused = free_again after child (shown (1 + length over.path) parent) _ level [] after.next_id exchange refl tt (omega arith) in
      let is : back ≡ inverse tree edit =
      sym (ap (λ o. option_map_or (λ c. Graft c.over c.place c.element) o (Remove id))
      (child_is tree id.0 (over.path ++ (place ∷ [])) over.path place parent child whole (node_at_end over.path place tree.root parent child over.at over.there) way.has refl over.at over.there)) in
      subst (GivesBefore tree after) is
      (gives_before tree after whole whole_after back over.path now at has reasons refl (proper_child after child _ _ level [] exchange) root
      (not_taken (ids_of (listed 1 child)) after.next_id (ids_of (listed 1 after.root)) unused))

  -- it was exchanged for another
  swaps : (edit : Edit) (path : List ℕ) (parent child other : Node) (place : ℕ) → IsWhole (edited tree edit) → node_at path tree.root ≡ Some parent
      → slice_get (children_of parent) place ≡ Some child → (edited tree edit).root ≡ changed_at (changed (Children (Exchange place other))) path tree.root
      → All IsProper (listed 1 child) → is_taken (Swap (head_of other).id child) (edited tree edit).next_id (listed 1 (edited tree edit).root) ≡ false
      → GivesBefore tree (edited tree edit) (Swap (head_of other).id child)
  swaps edit path parent child other place whole_after at there made proper free =
      let after = edited tree edit in
      let nodes = children_of parent in
      let change = Children (Exchange place other) in
      let now = changed change parent in
      let back = Swap (head_of other).id child in
      let near = slice_get_within nodes place child there in
      let over = now_there tree.root after.root parent path (changed change) at made in
      let here = ap (λ nodes. slice_get nodes place) (children_changed change parent) ∙ set_here nodes place child other there in
      let has = itself (head_of other).id.0 in
      let down = node_at_end path place after.root now other over here in
      let below : nat_eq (1 + length (path ++ (place ∷ []))) 1 ≡ false = ne_eqb (1 + length (path ++ (place ∷ []))) 1 (λ same. omega (arith, same, length_end path place)) in
      let reasons = none_holds (own_reasons back (shown (1 + length (path ++ (place ∷ []))) other)) (refl, (refl, (refl, (below, (refl, (refl, tt)))))) in
      let again : changed (Children (splice_back (ExchangeAt place) (slice_get nodes place) 0)) now ≡ changed (Children (Exchange place child)) now =
      ap (λ o. changed (Children (splice_back (ExchangeAt place) o 0)) now) there in
      let root = parent_change_law after back path now place other whole_after tt over here has
      ∙ led_back tree.root after.root parent path (changed change) (changed (Children (Exchange place child))) at made (sym again ∙ undone parent change 0 near tt) in
      gives_before tree after whole whole_after back (path ++ (place ∷ [])) other down has reasons refl proper root free

  replace_law : (id : NodeId) (new : Node) → All IsProper (listed 1 new) → refusal_of tree (Replace id new) ≡ None
      → GivesBefore tree (edited tree (Replace id new)) (inverse tree (Replace id new))
  replace_law id new proper free =
      let edit = Replace id new in
      let after = edited tree edit in
      let passes = accepted tree edit free in
      let way = reached id.0 tree.root passes.known in
      let child = way.element in
      let over = over_named tree edit way.path child whole way.at way.has passes.movable in
      let other = renumbered tree.next_id new in
      let level = 1 + length over.path + 1 in
      let exchange = replace_exchanged tree over.path over.element whole over.at id new over.place child over.there way.has in
      let all : AllByRecursion (λ n. n < tree.next_id) (ids_of (listed 1 tree.root)) = recursion_from_All (λ n. n < tree.next_id) (ids_of (listed 1 tree.root)) whole.given in
      let given = gone_given exchange refl (λ n. n < tree.next_id) all in
      let come = higher_apart tree.next_id (ids_of (listed level other)) (ids_of (listed level child)) (new_ids level tree.next_id new).new given in
      let unused = free_again after child (shown (1 + length over.path) over.element) _ level (listed level other) after.next_id exchange refl come (omega arith) in
      let is : Swap (head_of other).id child ≡ inverse tree edit =
      ap (λ (h : Head). Swap h.id child) (head_renumbered tree.next_id new)
      ∙ sym (ap (λ o. option_map_or (λ e. Swap (record { 0 = tree.next_id }) e) o (Remove id)) (element_is tree id.0 way.path child whole way.at way.has)) in
      subst (GivesBefore tree after) is
      (swaps edit over.path over.element child other over.place (stays_whole tree edit whole proper free) over.at over.there
      (parent_change_law tree edit over.path over.element over.place child whole tt over.at over.there way.has)
      (proper_child after child _ _ level (listed level other) exchange)
      (not_taken (ids_of (listed 1 child)) after.next_id (ids_of (listed 1 after.root)) unused))

  swap_law : (id : NodeId) (new : Node) → All IsProper (listed 1 new) → refusal_of tree (Swap id new) ≡ None
      → GivesBefore tree (edited tree (Swap id new)) (inverse tree (Swap id new))
  swap_law id new proper free =
      let edit = Swap id new in
      let after = edited tree edit in
      let passes = accepted tree edit free in
      let way = reached id.0 tree.root passes.known in
      let child = way.element in
      let over = over_named tree edit way.path child whole way.at way.has passes.movable in
      let level = 1 + length over.path + 1 in
      let exchange = swap_exchanged tree over.path over.element whole over.at id new over.place child over.there way.has in
      let kept = free_ids (ids_of (listed 1 new)) (tree.next_id + 0) (ids_of (listed 1 tree.root)) passes.free in
      let apart = gone_given exchange refl (λ x. AllByRecursion (λ y. nat_eq x y ≡ false) (ids_of (listed 1 new))) kept.apart in
      let come = subst (λ ids. AreApart ids (ids_of (listed level child))) (ids_at level new) (apart_turned (ids_of (listed level child)) (ids_of (listed 1 new)) apart) in
      let unused = free_again after child (shown (1 + length over.path) over.element) _ level (listed level new) after.next_id exchange refl come (omega arith) in
      let is : Swap (head_of new).id child ≡ inverse tree edit =
      sym (ap (λ o. option_map_or (λ e. Swap (head_of new).id e) o (Remove id)) (element_is tree id.0 way.path child whole way.at way.has)) in
      subst (GivesBefore tree after) is
      (swaps edit over.path over.element child new over.place (stays_whole tree edit whole proper free) over.at over.there
      (parent_change_law tree edit over.path over.element over.place child whole tt over.at over.there way.has)
      (proper_child after child _ _ level (listed level new) exchange)
      (not_taken (ids_of (listed 1 child)) after.next_id (ids_of (listed 1 after.root)) unused))

pub inverse_law : InverseLaw
inverse_law tree (Text id text) whole proper free = text_law tree whole id text free
inverse_law tree (Attr id name value) whole proper free = value_law tree whole id name value free
inverse_law tree (Insert id index new) whole proper free = insert_law tree whole id index new proper free
inverse_law tree (Remove id) whole proper free = remove_law tree whole id free
inverse_law tree (Replace id new) whole proper free = replace_law tree whole id new proper free
inverse_law tree (Graft id index new) whole proper free = graft_law tree whole id index new proper free
inverse_law tree (Swap id new) whole proper free = swap_law tree whole id new proper free
