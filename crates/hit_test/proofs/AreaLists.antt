-- The areas of some of the boxes, and the ids that a set has.
use Rattle.std.proofs.Common.{◌≡◌, ◌∙◌, refl, sym, ap, ℕ, ◌+◌, ◌<◌, nat_eq, Bool, true, false, ◌||◌, cond, List, [], ◌∷◌, ◌++◌, length, map, take, get_or, append-nil}
use Rattle.std.specs.Prelude.{filter}
use Rattle.std.specs.List.{flat_map, list_any}
use Rattle.std.specs.Ordering.{nat_cmp}
use Rattle.std.specs.BTreeMap.{is_at}
use Rattle.std.proofs.lemmas.Bool.Decides.{nat_tests}
use Rattle.std.proofs.lemmas.List.{map-append, take_more}
use Rattle.std.proofs.lemmas.List.Concat.{flat_map-append}
use Rattle.std.proofs.lemmas.List.Elements.{filter-append}
use Rattle.std.proofs.lemmas.List.Folds.{list_any-append}
use Rattle.std.proofs.Common.{arith}
use Rattle.math_tree.specs.declared.node.NodeId.{NodeId}
use Rattle.box_writer.specs.declared.placed.PlacedBox.{PlacedBox}
use Rattle.box_writer.specs.declared.placed.PlacedItem.{PlacedItem}
use Rattle.hit_test.specs.Hits.{box_in, boxes_of}
use Rattle.hit_test.specs.Selecting.{area_of}
use Rattle.hit_test.specs.declared.areas.Area.{Area}

-- the areas of the boxes that pass, among some items
abbrev pub areas_by : (PlacedBox → Bool) → List PlacedItem → List Area
areas_by test items = map area_of (filter test (boxes_of items))

-- one item more
pub areas-more : (test : PlacedBox → Bool) (items : List PlacedItem) (i : ℕ) (d item : PlacedItem) → i < length items → item ≡ get_or items i d
    → areas_by test (take i items) ++ map area_of (filter test (box_in item)) ≡ areas_by test (take (i + 1) items)
unfolding boxes_of
areas-more test items i d item below is =
    sym (
    ap (areas_by test) (take_more items i d below)
    ∙ ap (λ boxes. map area_of (filter test boxes)) (flat_map-append box_in (take i items) (get_or items i d ∷ []))
    ∙ ap (map area_of) (filter-append test (boxes_of (take i items)) (flat_map box_in (get_or items i d ∷ [])))
    ∙ map-append area_of (filter test (boxes_of (take i items))) (filter test (flat_map box_in (get_or items i d ∷ [])))
    ∙ ap (λ boxes. areas_by test (take i items) ++ map area_of (filter test boxes)) (append-nil (box_in (get_or items i d)) ∙ ap box_in (sym is)))

at_is_same : (key id : ℕ) → is_at (nat_cmp key) id ≡ nat_eq id key
at_is_same key id = grind (arith, nat_tests)

or_one : (a b : Bool) → cond b true a ≡ (a || (b || false))
or_one true true = refl
or_one true false = refl
or_one false true = refl
or_one false false = refl

-- one id more
pub among-more : (ids : List NodeId) (i : ℕ) (d : NodeId) (id : ℕ) (had : Bool) → i < length ids
    → had ≡ list_any (nat_eq id) (map (λ (n : NodeId). n.0) (take i ids))
    → cond (is_at (nat_cmp (get_or ids i d).0) id) true had ≡ list_any (nat_eq id) (map (λ (n : NodeId). n.0) (take (i + 1) ids))
among-more ids i d id had below is =
    ap (λ (b : Bool). cond b true had) (at_is_same (get_or ids i d).0 id)
    ∙ ap (λ (h : Bool). cond (nat_eq id (get_or ids i d).0) true h) is
    ∙ or_one (list_any (nat_eq id) (map (λ (n : NodeId). n.0) (take i ids))) (nat_eq id (get_or ids i d).0)
    ∙ sym (list_any-append (nat_eq id) (map (λ (n : NodeId). n.0) (take i ids)) ((get_or ids i d).0 ∷ []))
    ∙ ap (list_any (nat_eq id)) (sym (map-append (λ (n : NodeId). n.0) (take i ids) (get_or ids i d ∷ [])) ∙ ap (map (λ (n : NodeId). n.0)) (sym (take_more ids i d below)))

-- the area of one box, if it passes
pub one_area : (test : PlacedBox → Bool) (box : PlacedBox) (b : Bool) → b ≡ test box → cond b (area_of box ∷ []) [] ≡ map area_of (filter test (box ∷ []))
one_area test box b e = ap (λ (c : Bool). cond c (area_of box ∷ []) []) e ∙ by (test box)
  where
    by : (c : Bool) → cond c (area_of box ∷ []) [] ≡ map area_of (cond c (box ∷ []) [])
    by true = refl
    by false = refl

-- boxes that pass one test are those that pass another which says the same
pub same_areas : (test other : PlacedBox → Bool) → ((box : PlacedBox) → test box ≡ other box) → (items : List PlacedItem) → areas_by test items ≡ areas_by other items
same_areas test other same items = λ i. areas_by (λ box. same box i) items
