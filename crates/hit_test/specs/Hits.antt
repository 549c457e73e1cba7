-- Which element a point lies in.
use Rattle.std.specs.Prelude.{◌≡◌, ℕ, ℤ, ◌+ℤ◌, ◌-ℤ◌, int_le, int_lt, Bool, false, ◌&&◌, not, List, [], ◌∷◌, filter, Option, Some, None}
use Rattle.std.specs.List.{All, flat_map, list_any}
use Rattle.std.specs.Option.{option_map}
use Rattle.math_tree.specs.declared.node.NodeId.{NodeId}
use Rattle.box_writer.specs.declared.placed.PlacedBox.{PlacedBox}
use Rattle.box_writer.specs.declared.placed.PlacedItem.{PlacedItem}
use Rattle.box_writer.specs.declared.placed.PlacedItem.TheVariants.{Frame, Drawn}

-- ---- the boxes that hold a point

-- the boxes of a page, in its order
abbrev pub box_in : PlacedItem → List PlacedBox
box_in (Frame box) = box ∷ []
box_in (Drawn mark) = []

unfoldable pub boxes_of : List PlacedItem → List PlacedBox
boxes_of items = flat_map box_in items

-- a number lies from one on to before another
abbrev pub lies_between : ℤ → ℤ → ℤ → Bool
lies_between number from to = int_le from number && int_lt number to

-- a box holds its left and its upper edge, but not the others
unfoldable pub holds : ℤ → ℤ → PlacedBox → Bool
holds px py box =
    lies_between px box.x (box.x +ℤ box.frame.width)
    && lies_between py (box.y -ℤ box.frame.ascent) (box.y +ℤ box.frame.descent)

unfoldable pub holding : ℤ → ℤ → List PlacedItem → List PlacedBox
holding px py items = filter (holds px py) (boxes_of items)

-- ---- the last of the deepest

-- whether the element of one id, the second, is inside that of another
abbrev pub Inside : Type 0
Inside = ℕ → ℕ → Bool

-- no box inside its element holds the point
abbrev pub is_deepest : Inside → List PlacedBox → PlacedBox → Bool
is_deepest inside held box = not (list_any (λ other. inside box.id.0 other.id.0) held)

abbrev pub last_of : {A : Type 0} → List A → Option A
last_of [] = None
last_of (x ∷ []) = Some x
last_of (x ∷ y ∷ ys) = last_of (y ∷ ys)

abbrev pub id_of_box : Option PlacedBox → Option NodeId
id_of_box box = option_map (λ (b : PlacedBox). b.id) box

-- the element that a point lies in: of the boxes that hold it, the last that is deepest
unfoldable pub hit_of : Inside → ℤ → ℤ → List PlacedItem → Option NodeId
hit_of inside px py items =
    let held = holding px py items in
    id_of_box (last_of (filter (is_deepest inside held) held))

-- ---- document order

-- no element is inside itself, or inside one whose box comes later
abbrev pub ComesFirst : Inside → List PlacedBox → Type 0
ComesFirst inside [] = Unit {0}
ComesFirst inside (box ∷ boxes) =
    All (λ (later : PlacedBox). inside later.id.0 box.id.0 ≡ false) (box ∷ boxes)
    × ComesFirst inside boxes
