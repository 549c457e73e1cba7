-- Rows with an addition: `merror` and `mpadded` (MathML Core 3.3.4 and 3.3.6).
use Rattle.std.specs.Prelude.{ℕ, ℤ, pos, ◌+ℤ◌, ◌-ℤ◌, codes, Option, Some, None, List}
use Rattle.std.specs.Int.{int_max}
use Rattle.std.specs.Option.{option_and_then, option_map_or}
use Rattle.css_lengths.specs.Lengths.{length_of, resolved}
use Rattle.fixed_units.specs.Numbers.{halved}
use Rattle.fixed_units.specs.declared.boxes.MathBox.{MathBox}
use Rattle.css_lengths.specs.declared.lengths.LengthText.{LengthText}
use Rattle.css_lengths.specs.declared.lengths.Unit.{Unit as LengthUnit}
use Rattle.css_lengths.specs.declared.lengths.Unit.TheVariants.{Percent}
use Rattle.font_metrics.specs.Metrics.{MetricsValue, ex_of}
use Rattle.math_tree.specs.Attributes.{value_of}
use Rattle.math_tree.specs.declared.attributes.Attribute.{Attribute}

-- ---- errors

-- what stands round an error: 1 px, in place of a border (own choice)
abbrev pub border : ℤ
border = pos 1024

unfoldable pub error_of : MathBox → MathBox
error_of row = record {
  width = row.width +ℤ pos 2048;
  ascent = row.ascent +ℤ border;
  descent = row.descent +ℤ border;
  ink_ascent = row.ink_ascent +ℤ border;
  ink_descent = row.ink_descent +ℤ border;
  italic = pos 0;
  accent = halved (row.width +ℤ pos 2048);
}

-- ---- padding

-- a length that isn't a percentage, at a font size
abbrev pub absolute : MetricsValue → ℤ → LengthUnit → LengthText → Option ℤ
absolute m size Percent length = None
absolute m size unit length = Some (resolved length size (ex_of m size) (pos 0))

-- the length that an attribute gives; percentages count as absent (own choice), as do invalid
-- values
unfoldable pub length_in : MetricsValue → ℤ → List Attribute → List ℕ → Option ℤ
length_in m size attributes name =
    option_and_then (λ length. absolute m size length.unit length)
    (option_and_then length_of (value_of name attributes))

-- a length that counts as 0 where it is negative, or else a default
abbrev pub measure : MetricsValue → ℤ → List Attribute → List ℕ → ℤ → ℤ
measure m size attributes name default = option_map_or (λ length. int_max (pos 0) length)
    (length_in m size attributes name) default

unfoldable pub padded_width : MetricsValue → ℤ → List Attribute → MathBox → ℤ
padded_width m size attributes row = measure m size attributes (codes "width") row.width

unfoldable pub padded_ascent : MetricsValue → ℤ → List Attribute → MathBox → ℤ
padded_ascent m size attributes row = measure m size attributes (codes "height") row.ascent

unfoldable pub padded_descent : MetricsValue → ℤ → List Attribute → MathBox → ℤ
padded_descent m size attributes row = measure m size attributes (codes "depth") row.descent

-- where the row begins, and how far it is raised
unfoldable pub padded_start : MetricsValue → ℤ → List Attribute → ℤ
padded_start m size attributes = measure m size attributes (codes "lspace") (pos 0)

unfoldable pub padded_rise : MetricsValue → ℤ → List Attribute → ℤ
padded_rise m size attributes = option_map_or (λ length. length)
    (length_in m size attributes (codes "voffset")) (pos 0)

-- ink is that of the row where it stands
unfoldable pub padded_of : MetricsValue → ℤ → List Attribute → MathBox → MathBox
padded_of m size attributes row =
    let width = padded_width m size attributes row in
    let rise = padded_rise m size attributes in
    record {
      width = width;
      ascent = padded_ascent m size attributes row;
      descent = padded_descent m size attributes row;
      ink_ascent = row.ink_ascent +ℤ rise;
      ink_descent = row.ink_descent -ℤ rise;
      italic = pos 0;
      accent = halved width;
    }
