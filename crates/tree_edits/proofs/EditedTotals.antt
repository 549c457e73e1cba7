-- The numbers of a tree, and of what an edit makes of it.
use Rattle.std.proofs.Common.{◌≡◌, ◌∙◌, refl, sym, ap, subst, ℕ, ◌+◌, ◌≤◌, ◌<◌, ◌^◌, List, [], ◌∷◌, ◌++◌, length, slice_get, false, not, ◌&&◌, ◌||◌, nat_eq, nat_le, Option, Some, None, arith}
use Rattle.std.proofs.lemmas.Bool.{and_parts, leb-true, not-false}
use Rattle.std.specs.List.{list_all}
use Rattle.math_tree.specs.Attributes.{IsInOrder, value_of}
use Rattle.math_tree.specs.Forms.{begins_with_letter, is_name, is_name_byte, is_short_enough}
use Rattle.math_tree.specs.Trees.{TreeValue, IsWhole, byte_count, bytes_of_head, element_count, listed}
use Rattle.math_tree.specs.declared.node.Head.{Head}
use Rattle.math_tree.specs.declared.node.Node.{Node}
use Rattle.math_tree.specs.declared.node.NodeId.{NodeId}
use Rattle.tree_edits.proofs.AttributeBytes.{value_bytes}
use Rattle.tree_edits.proofs.PathEnds.{ends_at, ended, length_end}
use Rattle.tree_edits.proofs.Refusals.{all_fail}
use Rattle.tree_edits.proofs.Sizes.{Changes, Loses, shallow_tree, text_sizes, attribute_sizes, insert_sizes, graft_sizes, remove_sizes, replace_sizes, swap_sizes}
use Rattle.tree_edits.proofs.Target.{is_below_the_root}
use Rattle.tree_edits.specs.Edits.{head_of, edited, is_deep, is_long_value, with_text, with_attribute}
use Rattle.tree_edits.specs.Paths.{children_of, node_at}
use Rattle.tree_edits.specs.Planning.{Allows}
use Rattle.tree_edits.specs.Reasons.{own_reasons, shown}
use Rattle.tree_edits.specs.Sizes.{attribute_bytes, capped, size_of, totals_of, with_bytes, without, Adds, AddsOwn}
use Rattle.tree_edits.specs.declared.edit.Edit.TheVariants.{Text, Attr, Insert, Remove, Replace, Graft, Swap}
use Rattle.tree_edits.specs.declared.measure.Size.{Size}
use Rattle.tree_edits.specs.declared.totals.Totals.{Totals}

-- ---- totals from their numbers

pub are_totals : (tree : TreeValue) (totals : Totals) → totals.deep ≡ is_deep (listed 1 tree.root)
    → totals.size.elements ≡ capped (element_count tree.root) → totals.size.bytes ≡ capped (byte_count tree.root)
    → totals.next_id ≡ capped tree.next_id → totals ≡ totals_of tree
are_totals tree totals deep elements bytes next =
    ap (λ d. record totals { deep = d }) deep
    ∙ ap (λ (n : ℕ). record { deep = is_deep (listed 1 tree.root); size = record { elements = n; bytes = totals.size.bytes }; next_id = totals.next_id }) elements
    ∙ ap (λ (n : ℕ). record { deep = is_deep (listed 1 tree.root); size = record { elements = capped (element_count tree.root); bytes = n }; next_id = totals.next_id }) bytes
    ∙ ap (λ (n : ℕ). record { deep = is_deep (listed 1 tree.root); size = size_of tree.root; next_id = n }) next

pub tree_totals : (tree : TreeValue) (size : Size) (next : ℕ) → IsWhole tree → size.elements ≡ element_count tree.root
    → size.bytes ≡ byte_count tree.root → next ≡ tree.next_id
    → record { deep = false; size = size; next_id = next } ≡ totals_of tree
tree_totals tree size next whole elements bytes is =
    are_totals tree (record { deep = false; size = size; next_id = next }) (sym (shallow_tree tree whole))
    (omega (arith, elements, whole.few)) (omega (arith, bytes, whole.small)) (omega (arith, is, whole.next))

-- ---- texts and values that are short enough

text_within : (text : List ℕ) → not (is_short_enough text) ≡ false → length text ≤ 65536
unfolding is_short_enough
text_within text h = leb-true (length text) 65536 (not-false (is_short_enough text) h)

name_within : (name : List ℕ) → not (is_name name) ≡ false → length name ≤ 64
unfolding is_name
name_within name h =
    let parts = and_parts (begins_with_letter name && nat_le (length name) 64) (list_all is_name_byte name) (not-false (is_name name) h) in
    leb-true (length name) 64 (and_parts (begins_with_letter name) (nat_le (length name) 64) parts.0).1

value_within : (name : List ℕ) (value : Option (List ℕ)) → length name ≤ 64 → is_long_value value ≡ false → attribute_bytes name value ≤ 65600
value_within name (Some value) named h = let short = text_within value h in omega (arith, named, short)
value_within name None named h = omega arith

-- ---- an element that is changed by itself

-- some bytes more and some less
pub record CountsBytes (before after : Totals) (more less : ℕ) : Type 0 where
  pub fits : before.size.bytes + more < 2 ^ 64
  pub within : less ≤ before.size.bytes + more
  pub is : with_bytes more less before ≡ after

counts_bytes : (tree after : TreeValue) (was is : Head) (more less : ℕ) → IsWhole tree → Changes tree.root after.root was is
    → bytes_of_head is + less ≡ bytes_of_head was + more → more ≤ 65600 → after.next_id ≡ tree.next_id
    → CountsBytes (totals_of tree) (totals_of after) more less
counts_bytes tree after was is more less whole sizes bytes small next = record {
  fits = omega (arith, whole.small, small);
  within = omega (arith, whole.small, sizes.bytes, bytes);
  is = are_totals after (with_bytes more less (totals_of tree))
      (shallow_tree tree whole ∙ sym sizes.shallow) (omega (arith, sizes.elements)) (omega (arith, whole.small, small, sizes.bytes, bytes)) (omega (arith, next));
}

module _ (tree : TreeValue) (path : List ℕ) (element : Node) where
  pub text_totals : (id : NodeId) (text : List ℕ) → Allows (Text id text) tree path element
      → CountsBytes (totals_of tree) (totals_of (edited tree (Text id text))) (length text) (length (head_of element).text)
  text_totals id text allows =
      let reasons = all_fail (own_reasons (Text id text) (shown (1 + length path) element)) allows.own in
      let short = text_within text reasons.1.1.1.1.1.0 in
      counts_bytes tree (edited tree (Text id text)) (head_of element) (with_text text (head_of element)) (length text) (length (head_of element).text) allows.whole
      (text_sizes tree path element allows.whole allows.at id text allows.has) (omega arith) (omega (arith, short)) (omega arith)

  pub attribute_totals : (id : NodeId) (name : List ℕ) (value : Option (List ℕ)) → Allows (Attr id name value) tree path element
      → IsInOrder (head_of element).attributes
      → CountsBytes (totals_of tree) (totals_of (edited tree (Attr id name value))) (attribute_bytes name value) (attribute_bytes name (value_of name (head_of element).attributes))
  attribute_totals id name value allows order =
      let reasons = all_fail (own_reasons (Attr id name value) (shown (1 + length path) element)) allows.own in
      let short = value_within name value (name_within name reasons.1.1.1.1.0) reasons.1.1.1.1.1.0 in
      let bytes = value_bytes name value (head_of element).attributes order in
      counts_bytes tree (edited tree (Attr id name value)) (head_of element) (with_attribute name value (head_of element)) (attribute_bytes name value)
      (attribute_bytes name (value_of name (head_of element).attributes)) allows.whole
      (attribute_sizes tree path element allows.whole allows.at id name value allows.has) (omega (arith, bytes)) short (omega arith)

  -- ---- a child more

  pub insert_totals : (id : NodeId) (index : ℕ) (new : Node) (level : ℕ) (before after : Totals) → Allows (Insert id index new) tree path element
      → level ≡ 1 + length path → before ≡ totals_of tree → Adds (level + 1) new before after
      → after ≡ totals_of (edited tree (Insert id index new))
  insert_totals id index new level before after allows at is adds =
      let sizes = insert_sizes tree path element allows.whole allows.at id index new allows.has in
      let added = subst (λ (b : Totals). Adds (level + 1) new b after) is adds in
      let place : level + 1 ≡ 2 + length path = omega (arith, at) in
      are_totals (edited tree (Insert id index new)) after
      (added.deep ∙ ap (λ d. d || is_deep (listed (level + 1) new)) (shallow_tree tree allows.whole) ∙ ap (λ l. is_deep (listed l new)) place ∙ sym sizes.levels)
      (omega (arith, added.elements, sizes.elements)) (omega (arith, added.bytes, sizes.bytes)) (omega (arith, added.next))

  pub graft_totals : (id : NodeId) (index : ℕ) (new : Node) (level : ℕ) (before after : Totals) → Allows (Graft id index new) tree path element
      → level ≡ 1 + length path → before ≡ totals_of tree → AddsOwn (level + 1) new before after
      → after ≡ totals_of (edited tree (Graft id index new))
  graft_totals id index new level before after allows at is adds =
      let sizes = graft_sizes tree path element allows.whole allows.at id index new allows.has in
      let added = subst (λ (b : Totals). AddsOwn (level + 1) new b after) is adds in
      let place : level + 1 ≡ 2 + length path = omega (arith, at) in
      are_totals (edited tree (Graft id index new)) after
      (added.deep ∙ ap (λ d. d || is_deep (listed (level + 1) new)) (shallow_tree tree allows.whole) ∙ ap (λ l. is_deep (listed l new)) place ∙ sym sizes.levels)
      (omega (arith, added.elements, sizes.elements)) (omega (arith, added.bytes, sizes.bytes)) (omega (arith, added.next))

  -- ---- a child less

  -- the element over the one that goes
  pub record IsChild : Type 0 where
    pub front : List ℕ
    pub place : ℕ
    pub parent : Node
    pub is : path ≡ front ++ (place ∷ [])
    pub at : node_at front tree.root ≡ Some parent
    pub there : slice_get (children_of parent) place ≡ Some element

  is_child : node_at path tree.root ≡ Some element → nat_eq (1 + length path) 1 ≡ false → IsChild
  is_child at below =
      let end = ended path (is_below_the_root path below) in
      let over = ends_at end.front end.place tree.root element (ap (λ p. node_at p tree.root) (sym end.is) ∙ at) in
      record { front = end.front; place = end.place; parent = over.parent; is = end.is; at = over.at; there = over.there }

  removes : (id : NodeId) → Allows (Remove id) tree path element → Loses tree.root (edited tree (Remove id)).root element
  removes id allows =
      let reasons = all_fail (own_reasons (Remove id) (shown (1 + length path) element)) allows.own in
      let child = is_child allows.at reasons.1.1.1.0 in
      remove_sizes tree child.front child.parent allows.whole child.at id child.place element child.there allows.has

  -- what is there without the element
  pub record Leaves (before after : Totals) : Type 0 where
    pub elements : element_count element ≤ before.size.elements
    pub bytes : byte_count element ≤ before.size.bytes
    pub is : without element before ≡ after

  pub remove_totals : (id : NodeId) → Allows (Remove id) tree path element → Leaves (totals_of tree) (totals_of (edited tree (Remove id)))
  remove_totals id allows =
      let sizes = removes id allows in
      record {
        elements = omega (arith, allows.whole.few, sizes.elements);
        bytes = omega (arith, allows.whole.small, sizes.bytes);
        is = are_totals (edited tree (Remove id)) (without element (totals_of tree)) (shallow_tree tree allows.whole ∙ sym sizes.shallow)
            (omega (arith, allows.whole.few, sizes.elements)) (omega (arith, allows.whole.small, sizes.bytes)) (omega arith);
      }

  -- ---- a child in place of another

  exchanged : (id : NodeId) (new : Node) → Allows (Replace id new) tree path element → IsChild
  exchanged id new allows =
      let reasons = all_fail (own_reasons (Replace id new) (shown (1 + length path) element)) allows.own in
      is_child allows.at reasons.1.1.1.0

  pub replace_leaves : (id : NodeId) (new : Node) → Allows (Replace id new) tree path element → Leaves (totals_of tree) (without element (totals_of tree))
  replace_leaves id new allows =
      let child = exchanged id new allows in
      let sizes = remove_sizes tree child.front child.parent allows.whole child.at id child.place element child.there allows.has in
      record {
        elements = omega (arith, allows.whole.few, sizes.elements);
        bytes = omega (arith, allows.whole.small, sizes.bytes);
        is = refl;
      }

  pub replace_totals : (id : NodeId) (new : Node) (level : ℕ) (before rest after : Totals) → Allows (Replace id new) tree path element
      → level ≡ 1 + length path → before ≡ totals_of tree → rest ≡ without element before → Adds level new rest after
      → after ≡ totals_of (edited tree (Replace id new))
  replace_totals id new level before rest after allows at is rest_is adds =
      let child = exchanged id new allows in
      let sizes = replace_sizes tree child.front child.parent allows.whole child.at id new child.place element child.there allows.has in
      let leaves = replace_leaves id new allows in
      let added = subst (λ (b : Totals). Adds level new b after) (rest_is ∙ ap (without element) is) adds in
      let place : level ≡ 2 + length child.front = omega (arith, at, ap length child.is, length_end child.front child.place) in
      are_totals (edited tree (Replace id new)) after
      (added.deep ∙ ap (λ d. d || is_deep (listed level new)) (shallow_tree tree allows.whole) ∙ ap (λ l. is_deep (listed l new)) place ∙ sym sizes.levels)
      (omega (arith, added.elements, sizes.elements, leaves.elements, allows.whole.few))
      (omega (arith, added.bytes, sizes.bytes, leaves.bytes, allows.whole.small)) (omega (arith, added.next))

  swapped : (id : NodeId) (new : Node) → Allows (Swap id new) tree path element → IsChild
  swapped id new allows =
      let reasons = all_fail (own_reasons (Swap id new) (shown (1 + length path) element)) allows.own in
      is_child allows.at reasons.1.1.1.0

  pub swap_leaves : (id : NodeId) (new : Node) → Allows (Swap id new) tree path element → Leaves (totals_of tree) (without element (totals_of tree))
  swap_leaves id new allows =
      let child = swapped id new allows in
      let sizes = remove_sizes tree child.front child.parent allows.whole child.at id child.place element child.there allows.has in
      record {
        elements = omega (arith, allows.whole.few, sizes.elements);
        bytes = omega (arith, allows.whole.small, sizes.bytes);
        is = refl;
      }

  pub swap_totals : (id : NodeId) (new : Node) (level : ℕ) (before rest after : Totals) → Allows (Swap id new) tree path element
      → level ≡ 1 + length path → before ≡ totals_of tree → rest ≡ without element before → AddsOwn level new rest after
      → after ≡ totals_of (edited tree (Swap id new))
  swap_totals id new level before rest after allows at is rest_is adds =
      let child = swapped id new allows in
      let sizes = swap_sizes tree child.front child.parent allows.whole child.at id new child.place element child.there allows.has in
      let leaves = swap_leaves id new allows in
      let added = subst (λ (b : Totals). AddsOwn level new b after) (rest_is ∙ ap (without element) is) adds in
      let place : level ≡ 2 + length child.front = omega (arith, at, ap length child.is, length_end child.front child.place) in
      are_totals (edited tree (Swap id new)) after
      (added.deep ∙ ap (λ d. d || is_deep (listed level new)) (shallow_tree tree allows.whole) ∙ ap (λ l. is_deep (listed l new)) place ∙ sym sizes.levels)
      (omega (arith, added.elements, sizes.elements, leaves.elements, allows.whole.few))
      (omega (arith, added.bytes, sizes.bytes, leaves.bytes, allows.whole.small)) (omega (arith, added.next))
