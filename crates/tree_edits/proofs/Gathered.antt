-- The ids in an element, from those in its children.
use Rattle.std.proofs.Common.{◌≡◌, ◌∙◌, sym, ap, refl, ℕ, zero, suc, ◌+◌, ◌<◌, ◌≤◌, List, [], ◌∷◌, ◌++◌, length, take, get_or, slice_get, Some, Bool, true, false, ◌||◌}
use Rattle.std.proofs.lemmas.Bool.{or_from}
use Rattle.std.proofs.lemmas.List.{append-nil, append_assoc, map-append, take_all, take_more}
use Rattle.std.proofs.lemmas.List.Concat.{flat_map-append}
use Rattle.std.proofs.lemmas.List.Folds.{list_any-append}
use Rattle.std.proofs.lemmas.Option.{none-some, same_Some}
use Rattle.std.specs.List.{flat_map, list_any}
use Rattle.math_tree.proofs.Nodes.{listed_element}
use Rattle.math_tree.specs.Trees.{Listed, ids_of, listed}
use Rattle.math_tree.specs.declared.node.Node.{Node}
use Rattle.tree_edits.proofs.Levels.{ids_at}
use Rattle.tree_edits.specs.Edits.{head_of}
use Rattle.tree_edits.specs.Paths.{children_of}

abbrev pub ids_in : Node → List ℕ
ids_in n = ids_of (listed 1 n)

side_by_side : (nodes : List Node) → ids_of (flat_map (listed 2) nodes) ≡ flat_map ids_in nodes
side_by_side [] = refl
side_by_side (n ∷ nodes) =
    map-append (λ (e : Listed). e.head.id.0) (listed 2 n) (flat_map (listed 2) nodes)
    ∙ ap (λ l. l ++ ids_of (flat_map (listed 2) nodes)) (sym (ids_at 2 n))
    ∙ ap (λ l. ids_in n ++ l) (side_by_side nodes)

-- its own, and those in its children
pub ids_out : (n : Node) → ids_in n ≡ (head_of n).id.0 ∷ flat_map ids_in (children_of n)
ids_out n = ap ids_of (listed_element 1 n) ∙ ap (λ l. (head_of n).id.0 ∷ l) (side_by_side (children_of n))

-- one child more
one_child : (nodes : List Node) (i : ℕ) (child : Node) → i < length nodes → child ≡ get_or nodes i child
    → flat_map ids_in (take (i + 1) nodes) ≡ flat_map ids_in (take i nodes) ++ ids_in child
one_child nodes i child within is =
    ap (flat_map ids_in) (take_more nodes i child within ∙ ap (λ (c : Node). take i nodes ++ c ∷ []) (sym is))
    ∙ flat_map-append ids_in (take i nodes) (child ∷ [])
    ∙ ap (λ l. flat_map ids_in (take i nodes) ++ l) (append-nil (ids_in child))

-- ---- gathered

pub gathered_more : (before now after : List ℕ) (id : ℕ) (nodes : List Node) (i : ℕ) (child : Node) → i < length nodes → child ≡ get_or nodes i child
    → now ≡ before ++ (id ∷ flat_map ids_in (take i nodes)) → after ≡ now ++ ids_in child
    → after ≡ before ++ (id ∷ flat_map ids_in (take (i + 1) nodes))
gathered_more before now after id nodes i child within is so more =
    more
    ∙ ap (λ l. l ++ ids_in child) so
    ∙ append_assoc before (id ∷ flat_map ids_in (take i nodes)) (ids_in child)
    ∙ ap (λ l. before ++ (id ∷ l)) (sym (one_child nodes i child within is))

pub gathered_all : (before now : List ℕ) (n : Node) (i : ℕ) → length (children_of n) ≤ i
    → now ≡ before ++ ((head_of n).id.0 ∷ flat_map ids_in (take i (children_of n))) → now ≡ before ++ ids_in n
gathered_all before now n i past so =
    so ∙ ap (λ l. before ++ ((head_of n).id.0 ∷ flat_map ids_in l)) (take_all i (children_of n) past) ∙ ap (λ l. before ++ l) (sym (ids_out n))

-- ---- looked for

or_right : (a b : Bool) → b ≡ true → (a || b) ≡ true
or_right true b h = refl
or_right false b h = h

module _ (test : ℕ → Bool) where
  pub held_here : (n : Node) → test (head_of n).id.0 ≡ true → list_any test (ids_in n) ≡ true
  held_here n h = ap (list_any test) (ids_out n) ∙ ap (λ b. b || list_any test (flat_map ids_in (children_of n))) h

  among : (nodes : List Node) (i : ℕ) (child : Node) → slice_get nodes i ≡ Some child → list_any test (ids_in child) ≡ true
      → list_any test (flat_map ids_in nodes) ≡ true
  among [] i child at h = absurd (none-some child at)
  among (n ∷ nodes) zero child at h =
      list_any-append test (ids_in n) (flat_map ids_in nodes)
      ∙ ap (λ b. b || list_any test (flat_map ids_in nodes)) (ap (λ m. list_any test (ids_in m)) (same_Some n child at) ∙ h)
  among (n ∷ nodes) (suc i) child at h =
      list_any-append test (ids_in n) (flat_map ids_in nodes)
      ∙ or_right (list_any test (ids_in n)) (list_any test (flat_map ids_in nodes)) (among nodes i child at h)

  pub held_below : (n : Node) (i : ℕ) (child : Node) → slice_get (children_of n) i ≡ Some child → list_any test (ids_in child) ≡ true
      → list_any test (ids_in n) ≡ true
  held_below n i child at h =
      ap (list_any test) (ids_out n) ∙ or_right (test (head_of n).id.0) (list_any test (flat_map ids_in (children_of n))) (among (children_of n) i child at h)

  pub none_more : (nodes : List Node) (i : ℕ) (child : Node) → i < length nodes → child ≡ get_or nodes i child
      → list_any test (flat_map ids_in (take i nodes)) ≡ false → list_any test (ids_in child) ≡ false
      → list_any test (flat_map ids_in (take (i + 1) nodes)) ≡ false
  none_more nodes i child within is so own =
      ap (list_any test) (one_child nodes i child within is)
      ∙ list_any-append test (flat_map ids_in (take i nodes)) (ids_in child)
      ∙ or_from (list_any test (flat_map ids_in (take i nodes))) (list_any test (ids_in child)) so own

  pub none_held : (n : Node) (i : ℕ) → length (children_of n) ≤ i → test (head_of n).id.0 ≡ false
      → list_any test (flat_map ids_in (take i (children_of n))) ≡ false → list_any test (ids_in n) ≡ false
  none_held n i past own so =
      ap (list_any test) (ids_out n)
      ∙ or_from (test (head_of n).id.0) (list_any test (flat_map ids_in (children_of n))) own
      (ap (λ l. list_any test (flat_map ids_in l)) (sym (take_all i (children_of n) past)) ∙ so)
