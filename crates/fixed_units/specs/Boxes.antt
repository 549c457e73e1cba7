-- Boxes: which can be stored, and how they are moved up and joined.
use Rattle.std.specs.Prelude.{ℕ, ◌^◌, ℤ, pos, neg_ℤ, ◌+ℤ◌, ◌-ℤ◌, ◌≤ℤ◌, int_le, Bool, ◌&&◌, List, [], ◌∷◌, map, fold}
use Rattle.std.specs.Int.{int_max}
use Rattle.std.specs.List.{All, Contains}
use Rattle.fixed_units.specs.Numbers.{IsWithin}
use Rattle.fixed_units.specs.declared.boxes.MathBox.{MathBox}

-- ---- which can be stored

-- the farthest that a stored number reaches, on both sides of 0
abbrev pub farthest : ℕ
farthest = 2 ^ 30

unfoldable pub is_stored : ℤ → Bool
is_stored z = int_le (neg_ℤ (pos farthest)) z && int_le z (pos farthest)

abbrev pub is_box_stored : MathBox → Bool
is_box_stored frame =
    is_stored frame.width && is_stored frame.ascent && is_stored frame.descent
    && is_stored frame.ink_ascent && is_stored frame.ink_descent && is_stored frame.italic
    && is_stored frame.accent

-- each of the seven fields lies from -m to m
pub record IsBoxWithin (m : ℕ) (frame : MathBox) : Type 0 where
  pub width : IsWithin m frame.width
  pub ascent : IsWithin m frame.ascent
  pub descent : IsWithin m frame.descent
  pub ink_ascent : IsWithin m frame.ink_ascent
  pub ink_descent : IsWithin m frame.ink_descent
  pub italic : IsWithin m frame.italic
  pub accent : IsWithin m frame.accent

-- `is_box_stored` as a property of the seven fields
abbrev pub IsStored : MathBox → Type 0
IsStored frame = IsBoxWithin farthest frame

-- ---- moved up, and joined

-- a box whose baseline stands that far above another one, measured from there
unfoldable pub raised : MathBox → ℤ → MathBox
raised part height = record part {
  ascent = part.ascent +ℤ height;
  descent = part.descent -ℤ height;
  ink_ascent = part.ink_ascent +ℤ height;
  ink_descent = part.ink_descent -ℤ height;
}

-- two boxes on one baseline: the larger of each measure up and down, and the first one's width,
-- italic correction and accent
unfoldable pub joined : MathBox → MathBox → MathBox
joined first second = record first {
  ascent = int_max first.ascent second.ascent;
  descent = int_max first.descent second.descent;
  ink_ascent = int_max first.ink_ascent second.ink_ascent;
  ink_descent = int_max first.ink_descent second.ink_descent;
}

abbrev pub empty_box : MathBox
empty_box = record {
  width = pos 0;
  ascent = pos 0;
  descent = pos 0;
  ink_ascent = pos 0;
  ink_descent = pos 0;
  italic = pos 0;
  accent = pos 0;
}

-- all boxes of a list on one baseline; without any, a box of zeros
abbrev pub all_joined : List MathBox → MathBox
all_joined [] = empty_box
all_joined (frame ∷ frames) = fold joined frame frames

-- n is one of the numbers, and none of them is larger
pub record IsLargest (numbers : List ℤ) (n : ℤ) : Type 0 where
  pub reached : Contains numbers n
  pub bound : All (λ z. z ≤ℤ n) numbers

-- what joins boxes reaches up and down as far as the farthest of them, and no farther
pub record IsUnion (frames : List MathBox) (union : MathBox) : Type 0 where
  pub ascent : IsLargest (map (λ frame. frame.ascent) frames) union.ascent
  pub descent : IsLargest (map (λ frame. frame.descent) frames) union.descent
  pub ink_ascent : IsLargest (map (λ frame. frame.ink_ascent) frames) union.ink_ascent
  pub ink_descent : IsLargest (map (λ frame. frame.ink_descent) frames) union.ink_descent
