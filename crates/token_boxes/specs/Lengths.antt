-- Lengths that attributes of leaves give.
use Rattle.std.specs.Prelude.{ℕ, ℤ, pos, List, Option, Some, None}
use Rattle.std.specs.Option.{option_map, option_and_then}
use Rattle.css_lengths.specs.Lengths.{length_of, resolved}
use Rattle.css_lengths.specs.declared.lengths.LengthText.{LengthText}
use Rattle.css_lengths.specs.declared.lengths.Unit.{Unit as LengthUnit}
use Rattle.css_lengths.specs.declared.lengths.Unit.TheVariants.{Percent}
use Rattle.font_metrics.specs.Metrics.{MetricsValue, ex_of}
use Rattle.math_tree.specs.Attributes.{value_of}
use Rattle.math_tree.specs.declared.attributes.Attribute.{Attribute}

-- the length that an attribute writes; a text that is no length counts as absent
abbrev pub length_named : List ℕ → List Attribute → Option LengthText
length_named name attributes = option_and_then length_of (value_of name attributes)

-- the same where no percentage has a meaning, so that one counts as absent
abbrev pub unless_percent : LengthUnit → LengthText → Option LengthText
unless_percent Percent length = None
unless_percent unit length = Some length

abbrev pub absolute_named : List ℕ → List Attribute → Option LengthText
absolute_named name attributes =
    option_and_then (λ length. unless_percent length.unit length) (length_named name attributes)

-- in units at a font size
abbrev pub at_size : MetricsValue → ℤ → ℤ → LengthText → ℤ
at_size m size percent_of length = resolved length size (ex_of m size) percent_of

unfoldable pub length_in : MetricsValue → ℤ → ℤ → List ℕ → List Attribute → Option ℤ
length_in m size percent_of name attributes =
    option_map (at_size m size percent_of) (length_named name attributes)

unfoldable pub absolute_in : MetricsValue → ℤ → List ℕ → List Attribute → Option ℤ
absolute_in m size name attributes = option_map (at_size m size (pos 0))
    (absolute_named name attributes)
