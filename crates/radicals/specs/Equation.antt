-- How high the rule of a root lies, how far the surd reaches, and where an index stands (MathML
-- Core 3.3.3).
use Rattle.std.specs.Prelude.{◌^◌, ℤ, pos, ◌+ℤ◌, ◌-ℤ◌, ◌*ℤ◌}
use Rattle.std.specs.Int.{int_max}
use Rattle.fixed_units.specs.Boxes.{farthest}
use Rattle.fixed_units.specs.Numbers.{IsWithin, rounded, halved}
use Rattle.fixed_units.specs.declared.boxes.MathBox.{MathBox}
use Rattle.radicals.specs.declared.lengths.RootLengths.{RootLengths}
use Rattle.radicals.specs.declared.lengths.IndexLengths.{IndexLengths}

-- ---- the rule and the surd

-- the height of the rule's upper edge: the gap and the rule over the ink
unfoldable pub top_of : RootLengths → MathBox → ℤ
top_of font base = (base.ink_ascent +ℤ font.gap) +ℤ font.thickness

-- what the surd is to reach over: from there down to the foot of the ink
abbrev pub span_of : RootLengths → MathBox → ℤ
span_of font base = top_of font base +ℤ base.ink_descent

-- the box of a root at whose rule's upper edge the surd's ink ends
unfoldable pub root_frame_of : RootLengths → MathBox → MathBox → MathBox
root_frame_of font base surd =
    let top = top_of font base in
    let foot = (surd.ink_ascent +ℤ surd.ink_descent) -ℤ top in
    let width = surd.width +ℤ base.width in
    record {
      width = width;
      ascent = int_max base.ascent (top +ℤ font.extra);
      descent = int_max base.descent foot;
      ink_ascent = int_max base.ink_ascent top;
      ink_descent = int_max base.ink_descent foot;
      italic = pos 0;
      accent = halved width;
    }

-- ---- an index

-- the space ahead of an index is never below 0
abbrev pub kern_before_of : IndexLengths → ℤ
kern_before_of font = int_max font.kern_before (pos 0)

-- the space behind it takes back at most its own width
abbrev pub kern_after_of : IndexLengths → MathBox → ℤ
kern_after_of font index = int_max font.kern_after (pos 0 -ℤ index.width)

-- where the root itself begins
unfoldable pub root_start_of : IndexLengths → MathBox → ℤ
root_start_of font index = (kern_before_of font +ℤ index.width) +ℤ kern_after_of font index

-- so many percent of a length
unfoldable pub share_of : ℤ → ℤ → ℤ
share_of percent length = rounded (percent *ℤ length) (pos 100)

-- the height of the index: its ink ends that share of the root's ink above the foot of that ink
unfoldable pub index_height_of : IndexLengths → MathBox → MathBox → ℤ
index_height_of font root index =
    (share_of font.raise (root.ink_ascent +ℤ root.ink_descent) -ℤ root.ink_descent)
    +ℤ index.ink_descent

-- ---- what is asked of what stands under a root

-- the heights of a stored box; a row may be wider than one that is stored
pub record IsRow (frame : MathBox) : Type 0 where
  pub width : IsWithin (2 ^ 50) frame.width
  pub ascent : IsWithin farthest frame.ascent
  pub descent : IsWithin farthest frame.descent
  pub ink_ascent : IsWithin farthest frame.ink_ascent
  pub ink_descent : IsWithin farthest frame.ink_descent

-- what the box of a root keeps within
pub record IsRootBox (frame : MathBox) : Type 0 where
  pub width : IsWithin (2 ^ 51) frame.width
  pub ascent : IsWithin (2 ^ 43) frame.ascent
  pub descent : IsWithin (2 ^ 43) frame.descent
  pub ink_ascent : IsWithin (2 ^ 43) frame.ink_ascent
  pub ink_descent : IsWithin (2 ^ 43) frame.ink_descent
