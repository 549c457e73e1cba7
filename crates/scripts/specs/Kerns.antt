-- How far scripts are moved in or out at the corners of their bases (own use of the records of
-- OpenType MATH, "MathKernInfo").
use Rattle.std.specs.Prelude.{ℕ, ◌<◌, ◌^◌, ℤ, pos, ◌+ℤ◌, ◌-ℤ◌, ◌≤ℤ◌, ◌≡◌, length, Option, Some, None, IfSome}
use Rattle.std.specs.Int.{int_max}
use Rattle.fixed_units.specs.declared.boxes.MathBox.{MathBox}
use Rattle.font_metrics.specs.Metrics.{MetricsValue, kern_of}
use Rattle.font_metrics.specs.Tables.{no_kerns}
use Rattle.scripts.specs.declared.parts.Inked.{Inked}
use Rattle.scripts.specs.declared.parts.KernFrom.{KernFrom}

-- the kern of a corner at a height, and 0 where there is no glyph
abbrev pub corner_kern : MetricsValue → Option Inked → ℤ → ℤ
corner_kern m None height = pos 0
corner_kern m (Some inked) height = kern_of m inked.glyph.0 inked.corner height inked.size

-- at a height above the baseline of the base: the kern of the base there and that of a script that
-- is raised so far
abbrev pub kerns_meeting : MetricsValue → Option Inked → Option Inked → ℤ → ℤ → ℤ
kerns_meeting m base script raised height = corner_kern m base height
    +ℤ corner_kern m script (height -ℤ raised)

-- The superscript kern is the larger, over the height of the superscript's bottom and that of the
-- base's top, of the base's kern and the superscript's at that height; the subscript kern is the
-- larger, over the height of the subscript's top and that of the base's bottom, of the base's kern
-- and the subscript's.
unfoldable pub sup_kern_of : MetricsValue → KernFrom → MathBox → MathBox → ℤ → ℤ
sup_kern_of m from base sup up =
    int_max (kerns_meeting m from.base_sup from.sup up (up -ℤ sup.ink_descent))
    (kerns_meeting m from.base_sup from.sup up base.ink_ascent)

unfoldable pub sub_kern_of : MetricsValue → KernFrom → MathBox → MathBox → ℤ → ℤ
sub_kern_of m from base sub down =
    int_max (kerns_meeting m from.base_sub from.sub (pos 0 -ℤ down) (sub.ink_ascent -ℤ down))
    (kerns_meeting m from.base_sub from.sub (pos 0 -ℤ down) (pos 0 -ℤ base.ink_descent))

-- ---- which corners there are

abbrev pub no_corners : KernFrom
no_corners = record { base_sub = None; sub = None; base_sup = None; sup = None }

-- a glyph of the font, at a size in range
pub record IsInked (count : ℕ) (inked : Inked) : Type 0 where
  pub glyph : inked.glyph.0 < count
  pub low : pos 0 ≤ℤ inked.size
  pub high : inked.size ≤ℤ pos (2 ^ 20)

pub record AreInked (count : ℕ) (from : KernFrom) : Type 0 where
  pub base_sub : IfSome from.base_sub (IsInked count)
  pub sub : IfSome from.sub (IsInked count)
  pub base_sup : IfSome from.base_sup (IsInked count)
  pub sup : IfSome from.sup (IsInked count)

-- metrics in which no glyph has a kern
abbrev pub HasNoKerns : MetricsValue → Type 0
HasNoKerns m = m.tables.kerns ≡ no_kerns
