-- What is marked from one element to another.
use Rattle.std.specs.Prelude.{◌≡◌, ℕ, nat_eq, ◌^◌, ℤ, ◌+ℤ◌, ◌-ℤ◌, Bool, ◌&&◌, ◌||◌, not, if◌then◌else◌, List, [], ◌∷◌, map, filter, find, reverse, Option, Some, None}
use Rattle.std.specs.List.{list_any}
use Rattle.std.specs.Option.{option_map_or}
use Rattle.fixed_units.specs.Boxes.{IsStored}
use Rattle.fixed_units.specs.Numbers.{IsWithin}
use Rattle.math_tree.specs.declared.node.Node.{Node}
use Rattle.box_writer.specs.declared.placed.PlacedBox.{PlacedBox}
use Rattle.box_writer.specs.declared.placed.PlacedItem.{PlacedItem}
use Rattle.box_writer.specs.declared.placed.PlacedItem.TheVariants.{Frame, Drawn}
use Rattle.hit_test.specs.Elements.{children_of, elements_of, has_id, holds_id, id_of}
use Rattle.hit_test.specs.Hits.{boxes_of}
use Rattle.hit_test.specs.declared.areas.Area.{Area}
use Rattle.hit_test.specs.declared.select.SelectRefusal.{SelectRefusal}
use Rattle.hit_test.specs.declared.select.SelectRefusal.TheVariants.{NoNode, Memory}

-- ---- the lowest element over two

-- it is or contains both
abbrev pub is_over : ℕ → ℕ → Node → Bool
is_over first second element = holds_id first element && holds_id second element

-- and none of its children is or does
abbrev pub is_lowest : ℕ → ℕ → Node → Bool
is_lowest first second element =
    is_over first second element && not (list_any (is_over first second) (children_of element))

unfoldable pub lowest : ℕ → ℕ → Node → Option Node
lowest first second root = find (is_lowest first second) (elements_of root)

-- ---- the elements to mark

-- a child leads to an element that it is or contains
abbrev pub leads : ℕ → ℕ → Node → Bool
leads first second child = holds_id first child || holds_id second child

-- from the first that passes on
abbrev pub from_first : {A : Type 0} → (A → Bool) → List A → List A
from_first test [] = []
from_first test (item ∷ items) = if test item then item ∷ items else from_first test items

-- from the first that passes to the last
unfoldable pub between : {A : Type 0} → (A → Bool) → List A → List A
between test items = reverse (from_first test (reverse (from_first test items)))

-- the lowest element itself, where it is one of the two; else its children from the one that leads
-- to one of them to the one that leads to the other
abbrev pub marked_below : ℕ → ℕ → Node → List Node
marked_below first second element =
    if has_id first element || has_id second element then element ∷ []
    else between (leads first second) (children_of element)

unfoldable pub marked_ids : ℕ → ℕ → Node → List ℕ
marked_ids first second root =
    option_map_or (λ element. map id_of (marked_below first second element))
    (lowest first second root) []

-- the first of the two that isn't there
unfoldable pub missing_id : ℕ → ℕ → Node → Option ℕ
missing_id first second root =
    if not (holds_id first root) then Some first
    else if not (holds_id second root) then Some second
    else None

-- ---- their areas

-- the rectangle of a box
abbrev pub area_of : PlacedBox → Area
area_of box = record {
  x = box.x;
  y = box.y -ℤ box.frame.ascent;
  width = box.frame.width;
  height = box.frame.ascent +ℤ box.frame.descent;
}

abbrev pub is_marked : List ℕ → PlacedBox → Bool
is_marked ids box = list_any (nat_eq box.id.0) ids

-- the areas of the boxes that elements of these ids have, in the order of the page
unfoldable pub areas_of : List ℕ → List PlacedItem → List Area
areas_of ids items = map area_of (filter (is_marked ids) (boxes_of items))

-- what is marked from one element to another, where this is the tree of the elements in flow
abbrev pub selected_areas : ℕ → ℕ → Node → List PlacedItem → List Area
selected_areas first second root items = areas_of (marked_ids first second root) items

-- ---- what can be marked

-- a box that isn't so large or so far away that a number of its area is out of reach
abbrev pub IsInReach : PlacedItem → Type 0
IsInReach (Frame box) = IsStored box.frame × IsWithin (2 ^ 37) box.y
IsInReach (Drawn mark) = Unit {0}

-- when it is refused so: the first of the two that isn't there; want of memory has no cause here
abbrev pub IsMissing : ℕ → ℕ → Node → SelectRefusal → Type 0
IsMissing first second root (NoNode id) = missing_id first second root ≡ Some id.0
IsMissing first second root Memory = Unit {0}
