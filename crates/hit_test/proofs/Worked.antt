-- Worked hits: the page of a fraction at the sample metrics, one over one.
use Rattle.std.proofs.Common.{◌≡◌, refl, ℕ, ℤ, pos, negsuc, ◌&&◌, List, [], ◌∷◌, codes, Some, None}
use Rattle.std.specs.Prelude.{nat_lt}
use Rattle.math_tree.specs.declared.node.NodeId.{NodeId}
use Rattle.box_writer.specs.declared.placed.PlacedItem.{PlacedItem}
use Rattle.box_writer.specs.declared.placed.PlacedItem.TheVariants.{Frame}
use Rattle.hit_test.specs.Hits.{Inside, boxes_of, hit_of, holding, holds}

abbrev box : ℕ → List ℕ → ℤ → ℤ → ℕ → ℕ → ℕ → PlacedItem
box id name x y width ascent descent = Frame (record {
  id = record { 0 = id };
  name = name;
  x = x;
  y = y;
  frame = record {
    width = pos width;
    ascent = pos ascent;
    descent = pos descent;
    ink_ascent = pos 0;
    ink_descent = pos 0;
    italic = pos 0;
    accent = pos 0;
  };
})

-- `math(mfrac(mn(1), mn(1)))`
abbrev fraction : List PlacedItem
fraction =
    box 1 (codes "math") (pos 0) (pos 0) 8192 17200 9200
    ∷ box 2 (codes "mfrac") (pos 0) (pos 0) 8192 17200 9200
    ∷ box 3 (codes "mn") (pos 1024) (negsuc 6399) 6144 10800 3600
    ∷ box 4 (codes "mn") (pos 1024) (pos 5600) 6144 10800 3600 ∷ []

-- each is inside those before it, but the two numbers
abbrev nested : Inside
nested outer inner = nat_lt outer inner && nat_lt outer 3

abbrev number : ℕ → NodeId
number id = record { 0 = id }

-- in the numerator, in the denominator, in neither, and outside: the right edge isn't held
above : hit_of nested (pos 2000) (negsuc 6999) fraction ≡ Some (number 3)
unfolding hit_of holding boxes_of holds
above = refl

upper_descent : hit_of nested (pos 2000) (negsuc 3999) fraction ≡ Some (number 4)
unfolding hit_of holding boxes_of holds
upper_descent = refl

beside : hit_of nested (pos 100) (pos 0) fraction ≡ Some (number 2)
unfolding hit_of holding boxes_of holds
beside = refl

right_edge : hit_of nested (pos 8192) (pos 0) fraction ≡ None
unfolding hit_of holding boxes_of holds
right_edge = refl
