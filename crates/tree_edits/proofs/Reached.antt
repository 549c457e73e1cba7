-- An id that is in a tree is that of an element at the end of a way, and where that isn't the root,
-- there is an element over it.
use Rattle.std.proofs.Common.{◌≡◌, ◌∙◌, sym, ap, refl, inl, inr, ℕ, suc, ◌+◌, List, [], ◌∷◌, slice_get, Bool, true, Some, is_some, true≢false}
use Rattle.std.proofs.lemmas.Bool.{cases_Bool, or_cases}
use Rattle.std.proofs.lemmas.List.Folds.{list_any-append}
use Rattle.std.proofs.lemmas.Option.{same_Some}
use Rattle.std.specs.List.{AllByRecursion, flat_map, list_any}
use Rattle.std.specs.Option.{option_and_then}
use Rattle.std.specs.Prelude.{slice_set}
use Rattle.math_tree.proofs.Nodes.{by_children, listed_element}
use Rattle.math_tree.specs.Trees.{Listed, listed}
use Rattle.math_tree.specs.declared.node.Head.{Head}
use Rattle.math_tree.specs.declared.node.Node.{Node}
use Rattle.tree_edits.proofs.Frames.{changed_below, down, head_rolled}
use Rattle.tree_edits.proofs.Target.{first_of_id, found_nowhere}
use Rattle.tree_edits.specs.Edits.{has_id, head_of}
use Rattle.tree_edits.specs.Paths.{children_of, node_at, changed_at}

-- ---- the way to an id

pub record Reached (id : ℕ) (from : Node) : Type 0 where
  pub path : List ℕ
  pub element : Node
  pub at : node_at path from ≡ Some element
  pub has : has_id id (head_of element) ≡ true

module _ (id : ℕ) where
  abbrev has : Listed → Bool
  has e = has_id id e.head

  abbrev Reaches : Node → Type 0
  Reaches n = (level : ℕ) → list_any has (listed level n) ≡ true → Reached id n

  in_a_child : (nodes : List Node) (level : ℕ) → AllByRecursion Reaches nodes → list_any has (flat_map (listed level) nodes) ≡ true
      → (place : ℕ) × (child : Node) × (slice_get nodes place ≡ Some child) × Reached id child
  in_a_child [] level h any = absurd (true≢false (sym any))
  in_a_child (n ∷ nodes) level h any =
      let here = list_any has (listed level n) in
      let others = list_any has (flat_map (listed level) nodes) in
      elim (or_cases here others (sym (list_any-append has (listed level n) (flat_map (listed level) nodes)) ∙ any)) [
        | inl first ↦ (0, n, refl, h.0 level first)
        | inr later ↦ let found = in_a_child nodes level h.1 later in (suc found.0, found.1, found.2, found.3)
      ]

  reaches : (n : Node) → Reaches n
  reaches = by_children Reaches (λ n h level any.
      elim (or_cases (has_id id (head_of n)) (list_any has (flat_map (listed (level + 1)) (children_of n))) (sym (ap (list_any has) (listed_element level n)) ∙ any)) [
        | inl own ↦ record { path = []; element = n; at = refl; has = own }
        | inr below ↦
            let found = in_a_child (children_of n) (level + 1) h below in
            record {
              path = found.0 ∷ found.3.path;
              element = found.3.element;
              at = ap (option_and_then (node_at found.3.path)) found.2 ∙ found.3.at;
              has = found.3.has;
            }
      ])

  pub reached : (n : Node) → is_some (first_of_id id (listed 1 n)) ≡ true → Reached id n
  reached n some =
      elim (cases_Bool (list_any has (listed 1 n))) [
        | inl any ↦ reaches n 1 any
        | inr none ↦ absurd (true≢false (sym some ∙ ap is_some (found_nowhere id (listed 1 n) none)))
      ]

-- ---- the element over one that isn't the root

pub record ParentOf (child from : Node) : Type 0 where
  pub path : List ℕ
  pub element : Node
  pub place : ℕ
  pub at : node_at path from ≡ Some element
  pub there : slice_get (children_of element) place ≡ Some child

pub parent_of : (place : ℕ) (path : List ℕ) (from child : Node) → node_at (place ∷ path) from ≡ Some child → ParentOf child from
parent_of place [] from child at =
    let below = down [] (slice_get (children_of from) place) child at in
    record { path = []; element = from; place = place; at = refl; there = below.1 ∙ below.2 }
parent_of place (next ∷ path) from child at =
    let below = down (next ∷ path) (slice_get (children_of from) place) child at in
    let inner = parent_of next path below.0 child below.2 in
    record {
      path = place ∷ inner.path;
      element = inner.element;
      place = inner.place;
      at = ap (option_and_then (node_at inner.path)) below.1 ∙ inner.at;
      there = inner.there;
    }

-- ---- what the root keeps

-- what a change leaves of an element's head it leaves of the root's
pub root_keeps : {X : Type 0} (part : Head → X) (path : List ℕ) (from element : Node) (change : Node → Node) → node_at path from ≡ Some element
    → part (head_of (change element)) ≡ part (head_of element) → part (head_of (changed_at change path from)) ≡ part (head_of from)
root_keeps part [] from element change at keeps =
    let same = same_Some from element at in
    ap (λ n. part (head_of (change n))) same ∙ keeps ∙ sym (ap (λ n. part (head_of n)) same)
root_keeps part (place ∷ path) from element change at keeps =
    let below = down path (slice_get (children_of from) place) element at in
    let nodes = slice_set (children_of from) place (changed_at change path below.0) in
    ap (λ n. part (head_of n)) (changed_below change place path from below.0 below.1) ∙ ap part (head_rolled (head_of from) nodes)
