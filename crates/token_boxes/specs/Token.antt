-- The leaf of a token: the glyphs of its characters side by side (MathML Core 3.2.1.1).
use Rattle.std.specs.Prelude.{◌≡◌, ◌⊎◌, ℕ, ◌^◌, ℤ, pos, ◌+ℤ◌, ◌<ℤ◌, ◌≤ℤ◌, List, [], ◌∷◌, length, map, take, fold, slice_index_or, Option, Some, None}
use Rattle.std.specs.Int.{int_min}
use Rattle.std.specs.List.{reduce}
use Rattle.std.specs.Option.{option_map, option_map_or}
use Rattle.fixed_units.specs.Boxes.{empty_box, joined}
use Rattle.fixed_units.specs.Numbers.{halved}
use Rattle.fixed_units.specs.Sums.{list_to}
use Rattle.fixed_units.specs.declared.boxes.MathBox.{MathBox}
use Rattle.font_metrics.specs.Metrics.{MetricsValue, place_of_letter, line_ascent_of, line_descent_of}
use Rattle.font_metrics.specs.declared.glyph.GlyphId.{GlyphId}
use Rattle.font_metrics.specs.declared.mark.Mark.{Mark}
use Rattle.font_metrics.specs.declared.mark.Mark.TheVariants.{Glyph}
use Rattle.glyph_assembly.specs.Glyphs.{frame_at}
use Rattle.math_tree.specs.declared.node.Head.{Head}
use Rattle.token_boxes.specs.declared.leaf.Drawn.{Drawn}
use Rattle.token_boxes.specs.declared.leaf.Leaf.{Leaf}
use Rattle.token_boxes.specs.Letters.{letters_of, lone, shown_letter, slanted}

-- a leaf without spaces
abbrev pub leaf : MathBox → List Mark → Leaf
leaf frame marks = record { frame = frame; before = pos 0; after = pos 0; marks = marks }

-- one of a single mark
abbrev pub leaf_of : Drawn → Leaf
leaf_of drawn = leaf drawn.frame (drawn.mark ∷ [])

-- ---- one character

abbrev pub glyph_of : MetricsValue → ℕ → GlyphId
glyph_of m letter = record { 0 = place_of_letter m letter }

abbrev pub letter_frame : MetricsValue → ℤ → ℕ → MathBox
letter_frame m size letter = frame_at m (place_of_letter m letter) size

-- a box of that ink in a line of text
unfoldable pub on_line : MetricsValue → ℤ → MathBox → MathBox
on_line m size inked =
    record inked { ascent = line_ascent_of m size; descent = line_descent_of m size }

-- it keeps its glyph's italic correction and accent
unfoldable pub lone_letter : MetricsValue → ℤ → ℕ → Drawn
lone_letter m size letter = record {
  frame = on_line m size (letter_frame m size letter);
  mark = Glyph (pos 0) (pos 0) size (glyph_of m letter);
}

-- ---- several

-- what characters take along the line
unfoldable pub width_of : MetricsValue → ℤ → List ℕ → ℤ
width_of m size letters = fold (λ width letter. width
    +ℤ (letter_frame m size letter).width) (pos 0) letters

-- the ink of all characters on one baseline; none without any
unfoldable pub inks_of : MetricsValue → ℤ → List ℕ → Option MathBox
inks_of m size letters = reduce joined (map (letter_frame m size) letters)

-- the character at a place stands behind those before it
abbrev pub mark_at : MetricsValue → ℤ → List ℕ → ℕ → Mark
mark_at m size letters place =
    Glyph (width_of m size (take place letters)) (pos 0) size
    (glyph_of m (slice_index_or letters place 0))

unfoldable pub marks_of : MetricsValue → ℤ → List ℕ → List Mark
marks_of m size letters = list_to (length letters) (mark_at m size letters)

-- no italic correction, and the accent over the middle
unfoldable pub word_frame_of : MetricsValue → ℤ → MathBox → ℤ → MathBox
word_frame_of m size inks width = record {
  width = width;
  ascent = line_ascent_of m size;
  descent = line_descent_of m size;
  ink_ascent = inks.ink_ascent;
  ink_descent = inks.ink_descent;
  italic = pos 0;
  accent = halved width;
}

-- without a character there is nothing, not even a line
unfoldable pub word_leaf : MetricsValue → ℤ → List ℕ → Leaf
word_leaf m size letters =
    option_map_or (λ inks. leaf (word_frame_of m size inks (width_of m size letters))
    (marks_of m size letters))
    (inks_of m size letters) (leaf empty_box [])

-- ---- the token

unfoldable pub token_of : MetricsValue → Head → ℤ → Leaf
token_of m head size =
    option_map_or (λ letter. leaf_of (lone_letter m size (slanted head letter)))
    (lone (letters_of head))
    (word_leaf m size (letters_of head))

-- the glyph of a token that shows one character
unfoldable pub token_glyph_of : MetricsValue → Head → Option GlyphId
token_glyph_of m head = option_map (glyph_of m) (shown_letter head)

-- ---- texts that are too long

-- far out of the stored range
abbrev pub far : ℤ
far = pos (2 ^ 60)

-- the leaf of a definition; or both are far too wide to be stored
abbrev pub IsLeaf : Leaf → Leaf → Type 0
IsLeaf exact leaf = (leaf ≡ exact) ⊎ ((far <ℤ exact.frame.width) × (far <ℤ leaf.frame.width))

-- ---- how the code goes along a text

unfoldable pub further : ℤ → ℤ → ℤ
further width advance = int_min (width +ℤ advance) (far +ℤ pos 1)

abbrev pub also_inked : Option MathBox → MathBox → MathBox
also_inked None frame = frame
also_inked (Some inks) frame = joined inks frame

-- so far it is exact, or too wide already
pub record IsWord (m : MetricsValue) (size : ℤ) (letters : List ℕ) (width : ℤ)
    (inks : Option MathBox) (marks : List Mark) : Type 0 where
  pub wide : pos 0 ≤ℤ width_of m size letters
  pub width_is : width ≡ int_min (width_of m size letters) (far +ℤ pos 1)
  pub inks_are : inks ≡ inks_of m size letters
  pub marks_are : width_of m size letters ≤ℤ far → marks ≡ marks_of m size letters
