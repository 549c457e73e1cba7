-- The last box that holds a point is the last of the deepest.
use Rattle.std.proofs.Common.{◌≡◌, ◌∙◌, refl, sym, ap, subst, ℕ, ◌+◌, ◌<◌, Bool, true, false, ◌||◌, not, cond, List, [], ◌∷◌, ◌++◌, length, take, get_or, append-nil, Option, Some, None, ℤ}
use Rattle.std.specs.Prelude.{filter, IsNone, ◌↔◌}
use Rattle.std.specs.List.{All, flat_map, list_any}
use Rattle.std.specs.Option.{IfSome, is_some}
use Rattle.std.proofs.lemmas.List.{take_more}
use Rattle.std.proofs.lemmas.List.Concat.{flat_map-append}
use Rattle.std.proofs.lemmas.List.Elements.{All-head, All-tail, All-filter, filter-append}
use Rattle.math_tree.specs.declared.node.NodeId.{NodeId}
use Rattle.box_writer.specs.declared.placed.PlacedBox.{PlacedBox}
use Rattle.box_writer.specs.declared.placed.PlacedItem.{PlacedItem}
use Rattle.hit_test.specs.Hits.{ComesFirst, Inside, box_in, boxes_of, hit_of, holding, holds, id_of_box, is_deepest, last_of}
use Rattle.hit_test.specs.Running.{or_last}

-- ---- one item after another

pub or_last-append : (last : Option NodeId) (xs ys : List PlacedBox) → or_last last (xs ++ ys) ≡ or_last (or_last last xs) ys
or_last-append last [] ys = refl
or_last-append last (x ∷ xs) ys = or_last-append (Some x.id) xs ys

or_last_some : (last : Option NodeId) (box : PlacedBox) (boxes : List PlacedBox) → or_last last (box ∷ boxes) ≡ id_of_box (last_of (box ∷ boxes))
or_last_some last box [] = refl
or_last_some last box (next ∷ boxes) = or_last_some (Some box.id) next boxes

pub or_last_is : (boxes : List PlacedBox) → or_last None boxes ≡ id_of_box (last_of boxes)
or_last_is [] = refl
or_last_is (box ∷ boxes) = or_last_some None box boxes

pub holding-more : (px py : ℤ) (items : List PlacedItem) (i : ℕ) (d item : PlacedItem) → i < length items → item ≡ get_or items i d
    → holding px py (take (i + 1) items) ≡ holding px py (take i items) ++ filter (holds px py) (box_in item)
unfolding holding boxes_of
holding-more px py items i d item below is =
    ap (holding px py) (take_more items i d below)
    ∙ ap (filter (holds px py)) (flat_map-append box_in (take i items) (get_or items i d ∷ []))
    ∙ filter-append (holds px py) (boxes_of (take i items)) (flat_map box_in (get_or items i d ∷ []))
    ∙ ap (λ l. holding px py (take i items) ++ filter (holds px py) l) (append-nil (box_in (get_or items i d)) ∙ ap box_in (sym is))

-- ---- the last of the deepest

last_holds : (P : PlacedBox → Type 0) (boxes : List PlacedBox) → All P boxes → IfSome (last_of boxes) P
last_holds P [] all = tt
last_holds P (box ∷ []) all = All-head P box [] all
last_holds P (box ∷ next ∷ boxes) all = last_holds P (next ∷ boxes) (All-tail P box (next ∷ boxes) all)

module _ (inside : Inside) where
  -- nothing is inside the last one
  abbrev IsBare : List PlacedBox → PlacedBox → Type 0
  IsBare boxes last = list_any (λ (other : PlacedBox). inside last.id.0 other.id.0) boxes ≡ false

  abbrev IsAfter : PlacedBox → PlacedBox → Type 0
  IsAfter box later = inside later.id.0 box.id.0 ≡ false

  last_bare : (boxes : List PlacedBox) → ComesFirst inside boxes → IfSome (last_of boxes) (IsBare boxes)
  last_bare [] h = tt
  last_bare (box ∷ []) h = ap (λ (b : Bool). b || false) (All-head (IsAfter box) box [] h.0)
  last_bare (box ∷ next ∷ boxes) h =
      by (last_of (next ∷ boxes)) (last_holds (IsAfter box) (next ∷ boxes) (All-tail (IsAfter box) box (next ∷ boxes) h.0)) (last_bare (next ∷ boxes) h.1)
    where
      by : (last : Option PlacedBox) → IfSome last (IsAfter box) → IfSome last (IsBare (next ∷ boxes)) → IfSome last (IsBare (box ∷ next ∷ boxes))
      by None e f = tt
      by (Some last) e f = ap (λ (b : Bool). b || list_any (λ (other : PlacedBox). inside last.id.0 other.id.0) (next ∷ boxes)) e ∙ f

  ordered_kept : (test : PlacedBox → Bool) (boxes : List PlacedBox) → ComesFirst inside boxes → ComesFirst inside (filter test boxes)
  ordered_kept test [] h = tt
  ordered_kept test (box ∷ boxes) h = by (ordered_kept test boxes h.1) (test box) refl
    where
      by : ComesFirst inside (filter test boxes) → (b : Bool) → test box ≡ b → ComesFirst inside (cond b (box ∷ filter test boxes) (filter test boxes))
      by rest true e = (subst (λ l. All (IsAfter box) l) (ap (λ (b : Bool). cond b (box ∷ filter test boxes) (filter test boxes)) e) (All-filter test (IsAfter box) (box ∷ boxes) h.0), rest)
      by rest false e = rest

some_last : (box : PlacedBox) (boxes : List PlacedBox) → last_of (box ∷ boxes) ≡ None → ⊥
some_last box [] e = absurd cc
some_last box (next ∷ boxes) e = some_last next boxes e

-- a list whose last one passes ends with it when it is filtered
last_kept : (test : PlacedBox → Bool) (boxes : List PlacedBox) → IfSome (last_of boxes) (λ last. test last ≡ true)
    → last_of (filter test boxes) ≡ last_of boxes
last_kept test [] h = refl
last_kept test (box ∷ []) h = ap (λ (b : Bool). last_of (cond b (box ∷ []) [])) h
last_kept test (box ∷ next ∷ boxes) h = by (test box) (filter test (next ∷ boxes)) (last_kept test (next ∷ boxes) h)
  where
    by : (b : Bool) (kept : List PlacedBox) → last_of kept ≡ last_of (next ∷ boxes) → last_of (cond b (box ∷ kept) kept) ≡ last_of (next ∷ boxes)
    by false kept e = e
    by true [] e = absurd (some_last next boxes (sym e))
    by true (one ∷ kept) e = e

pub last_is_deepest : (inside : Inside) (px py : ℤ) (items : List PlacedItem) → ComesFirst inside (boxes_of items)
    → id_of_box (last_of (holding px py items)) ≡ hit_of inside px py items
unfolding hit_of holding
last_is_deepest inside px py items h =
    let held = holding px py items in
    let bare = last_bare inside held (ordered_kept inside (holds px py) (boxes_of items) h) in
    ap id_of_box (sym (last_kept (is_deepest inside held) held (by held (last_of held) bare)))
  where
    by : (held : List PlacedBox) (last : Option PlacedBox) → IfSome last (IsBare inside held) → IfSome last (λ (box : PlacedBox). is_deepest inside held box ≡ true)
    by held None e = tt
    by held (Some box) e = ap not e

some_hit : (box : PlacedBox) (boxes : List PlacedBox) → IsNone (id_of_box (last_of (box ∷ boxes))) → ⊥
some_hit box [] h = absurd cc
some_hit box (next ∷ boxes) h = some_hit next boxes h

none_hit : (boxes : List PlacedBox) → IsNone (id_of_box (last_of boxes)) → boxes ≡ []
none_hit [] h = refl
none_hit (box ∷ boxes) h = absurd (some_hit box boxes h)

-- none is hit where none holds the point
pub none_holds : (boxes : List PlacedBox) → IsNone (id_of_box (last_of boxes)) ↔ (boxes ≡ [])
none_holds boxes = (none_hit boxes, λ e. ap (λ l. is_some (id_of_box (last_of l))) e)
