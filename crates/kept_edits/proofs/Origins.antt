-- Where an element of a changed tree was before: on the path to the change, or elsewhere, or in none of the old tree.
use Rattle.std.proofs.Common.{◌≡◌, ◌∙◌, ◌⊎◌, inl, inr, refl, sym, ap, subst, ℕ, nat_eq, ◌+◌, ◌≤◌, Bool, true, false, true≢false, List, [], ◌∷◌, ◌++◌, length, set, Some, slice_get}
use Rattle.std.proofs.lemmas.Bool.Decides.{Decides-eqb}
use Rattle.std.proofs.lemmas.Option.{same_Some}
use Rattle.std.specs.List.{AllByRecursion, flat_map}
use Rattle.std.specs.Option.{option_and_then}
use Rattle.splices.proofs.Origins.{brought_holds, comes}
use Rattle.splices.specs.Splicing.{Brings, Moves, site_of, spliced}
use Rattle.math_tree.specs.Trees.{Listed, ids_of, listed, node as node_of}
use Rattle.math_tree.specs.declared.node.Head.{Head}
use Rattle.math_tree.specs.declared.node.Node.{Node}
use Rattle.math_tree.proofs.Nodes.{listed_element}
use Rattle.tree_edits.specs.Edits.{has_id, head_of}
use Rattle.tree_edits.specs.Paths.{Fits, FitsAt, changed, changed_at, children_of, node_at, splice_of}
use Rattle.tree_edits.specs.Reasons.{shown}
use Rattle.tree_edits.specs.declared.change.Change.{Change}
use Rattle.tree_edits.proofs.Children.{children_changed, fits_children, id_stays}
use Rattle.tree_edits.proofs.Frames.{before_change, changed_below, children_rolled, down, framed, head_rolled}
use Rattle.kept_results.proofs.Lists.{set_cases, set_here}
use Rattle.kept_edits.specs.ByIds.{BringsBy}
use Rattle.kept_edits.specs.Need.{CameFrom}

abbrev pub id_of : Node → ℕ
id_of node = (head_of node).id.0

-- ---- ids

-- what holds of all ids in a node holds of that of an element in it
id_among : (P : ℕ → Type 0) (front back : List Listed) (e : Listed) → AllByRecursion P (ids_of (front ++ (e ∷ back))) → P e.head.id.0
id_among P [] back e h = h.0
id_among P (f ∷ front) back e h = id_among P front back e h.1

pub id_within : (P : ℕ → Type 0) (path : List ℕ) (from element : Node) → node_at path from ≡ Some element → AllByRecursion P (ids_of (listed 1 from))
    → P (id_of element)
id_within P path from element at h =
    let level = 1 + length path in
    let frame = framed 1 path from element at in
    let below = flat_map (listed (level + 1)) (children_of element) in
    let split : listed 1 from ≡ frame.front ++ (shown level element ∷ (below ++ frame.back)) =
    before_change 1 path from element at frame
    ∙ ap (λ (l : List Listed). frame.front ++ (l ++ frame.back)) (listed_element level element) in
    id_among P frame.front (below ++ frame.back) (shown level element) (subst (λ (l : List Listed). AllByRecursion P (ids_of l)) split h)

-- the element over one that is changed keeps its id, as that one does
id_after : (path : List ℕ) (change : Change) (old : Node) → FitsAt change path old → id_of (changed_at (changed change) path old) ≡ id_of old
id_after [] change old fits = id_stays change old
id_after (place ∷ path) change old fits =
    let below = down path (slice_get (children_of old) place) fits.element fits.at in
    ap id_of (changed_below (changed change) place path old below.0 below.1)
    ∙ ap (λ (h : Head). h.id.0) (head_rolled (head_of old) (set (children_of old) place (changed_at (changed change) path below.0)))

-- ---- children of the element that is changed

abbrev Below : List ℕ → List Node → ℕ → Node → Type 0
Below path nodes place n = option_and_then (node_at path) (slice_get nodes place) ≡ Some n

-- it is in what was put in, or in a child that was there
abbrev Sourced : (ℕ → Type 0) → Change → List ℕ → Node → ℕ → Node → Type 0
Sourced New change path old place n = (New (id_of n)) ⊎ ((before : ℕ) × Moves (site_of (splice_of change)) before place × Below path (children_of old) before n)

module _ (path : List ℕ) (n : Node) where
  rolled : (head : Head) (nodes : List Node) (place : ℕ) → Below path (children_of (node_of head nodes)) place n → Below path nodes place n
  rolled head nodes place h = ap (λ (l : List Node). option_and_then (node_at path) (slice_get l place)) (sym (children_rolled head nodes)) ∙ h

  -- it is in a child that was put in, or in one that was there
  of_child : (New : ℕ → Type 0) (change : Change) (old : Node) (place : ℕ) (child : Node) → BringsBy New change → node_at path child ≡ Some n
      → Brings (splice_of change) place child ⊎ ((before : ℕ) × Moves (site_of (splice_of change)) before place × (slice_get (children_of old) before ≡ Some child))
      → Sourced New change path old place n
  of_child New change old place child new at (inl put) =
      inl (id_within New path child n at
      (brought_holds (λ (c : Node). AllByRecursion New (ids_of (listed 1 c))) (splice_of change) place child new put))
  of_child New change old place child new at (inr was) = inr (was.0, was.1, ap (option_and_then (node_at path)) was.2 ∙ at)

  sourced : (New : ℕ → Type 0) (change : Change) (old : Node) (place : ℕ) → Fits change old → BringsBy New change → Below path (children_of (changed change old)) place n
      → Sourced New change path old place n
  sourced New change old place fits new h =
      let all = spliced (splice_of change) (children_of old) in
      let there = down path (slice_get all place) n (ap (λ (l : List Node). option_and_then (node_at path) (slice_get l place)) (sym (children_changed change old)) ∙ h) in
      of_child New change old place there.0 new there.2
      (comes (splice_of change) (children_of old) place there.0 (fits_children change old fits) there.1)

-- ---- an element of the changed tree

same_place : (i j : ℕ) → (i ≡ j) ⊎ (i ≡ j → ⊥)
same_place i j = by (nat_eq i j) refl
  where
    by : (b : Bool) → nat_eq i j ≡ b → (i ≡ j) ⊎ (i ≡ j → ⊥)
    by true e = inl ((Decides-eqb i j).0 e)
    by false e = inr (λ same. true≢false (sym ((Decides-eqb i j).1 same) ∙ e))

-- one on a path has an id
pub record StandsOn (path : List ℕ) (old : Node) (id : ℕ) : Type 0 where
  pub front : List ℕ
  pub rest : List ℕ
  pub parts : path ≡ front ++ rest
  pub element : Node
  pub at : node_at front old ≡ Some element
  pub has : has_id id (head_of element) ≡ true

abbrev pub Came : List ℕ → Change → Node → List ℕ → Node → Type 0
Came path change old to n = (from : List ℕ) × CameFrom path change from to × (node_at from old ≡ Some n)

-- it is on the path, or its id is new, or it came from elsewhere
abbrev pub HasOrigin : (ℕ → Type 0) → List ℕ → Change → Node → List ℕ → Node → Type 0
HasOrigin New path change old to n = StandsOn path old (id_of n) ⊎ ((New (id_of n)) ⊎ Came path change old to n)

first_on : (New : ℕ → Type 0) (path : List ℕ) (change : Change) (old : Node) (n : Node) → FitsAt change path old → node_at [] (changed_at (changed change) path old) ≡ Some n
    → HasOrigin New path change old [] n
first_on New path change old n fits e =
    let same : id_of old ≡ id_of n = sym (id_after path change old fits) ∙ ap id_of (same_Some (changed_at (changed change) path old) n e) in
    inl (record { front = []; rest = path; parts = refl; element = old; at = refl; has = (Decides-eqb (id_of old) (id_of n)).1 same })

further_down : (New : ℕ → Type 0) (place : ℕ) (path : List ℕ) (change : Change) (old child : Node) (after : ℕ) (to : List ℕ) (n : Node) → slice_get (children_of old) place ≡ Some child
    → after ≡ place → HasOrigin New path change child to n → HasOrigin New (place ∷ path) change old (after ∷ to) n
further_down New place path change old child after to n at e (inl on) =
    inl (record {
      front = place ∷ on.front;
      rest = on.rest;
      parts = ap (λ (l : List ℕ). place ∷ l) on.parts;
      element = on.element;
      at = ap (option_and_then (node_at on.front)) at ∙ on.at;
      has = on.has;
    })
further_down New place path change old child after to n at e (inr (inl new)) = inr (inl new)
further_down New place path change old child after to n at e (inr (inr came)) =
    inr (inr (after ∷ came.0, (refl, inl (e, came.1)), ap (option_and_then (node_at came.0)) (ap (slice_get (children_of old)) e ∙ at) ∙ came.2))

module _ (New : ℕ → Type 0) (change : Change) (new : BringsBy New change) where
  pub origin : (path : List ℕ) (old : Node) (to : List ℕ) (n : Node) → FitsAt change path old → node_at to (changed_at (changed change) path old) ≡ Some n
      → HasOrigin New path change old to n
  origin [] old [] n fits e = first_on New [] change old n fits e
  origin (place ∷ path) old [] n fits e = first_on New (place ∷ path) change old n fits e
  origin [] old (after ∷ to) n fits e =
      let here = subst (Fits change) (sym (same_Some old fits.element fits.at)) fits.fits in
      elim (sourced to n New change old after here new e) [
        | inl fresh ↦ inr (inl fresh)
        | inr moved ↦ inr (inr (moved.0 ∷ to, (moved.1, refl), moved.2))
      ]
  origin (place ∷ path) old (after ∷ to) n fits e =
      let nodes = children_of old in
      let below = down path (slice_get nodes place) fits.element fits.at in
      let child = changed_at (changed change) path below.0 in
      let there : Below to (set nodes place child) after n =
      rolled to n (head_of old) (set nodes place child) after (ap (node_at (after ∷ to)) (sym (changed_below (changed change) place path old below.0 below.1)) ∙ e) in
      elim (same_place after place) [
        | inl same ↦
            let at : slice_get (set nodes place child) after ≡ Some child = ap (slice_get (set nodes place child)) same ∙ set_here nodes place child below.0 below.1 in
            let inside : node_at to child ≡ Some n = ap (option_and_then (node_at to)) (sym at) ∙ there in
            further_down New place path change old below.0 after to n below.1 same
            (origin path below.0 to n record { element = fits.element; at = below.2; fits = fits.fits } inside)
        | inr other ↦
            let found = down to (slice_get (set nodes place child) after) n there in
            elim (set_cases nodes place after child found.0 found.1) [
              | inl p ↦ absurd (other p.0)
              | inr kept ↦ inr (inr (after ∷ to, (refl, inr (other, refl)), ap (option_and_then (node_at to)) kept ∙ found.2))
            ]
      ]
