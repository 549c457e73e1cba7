-- The rules of styles, one by one. They are modelled on MathML Core's user agent stylesheet
-- (Appendix A) and on the properties `math-depth`, `math-style` and `math-shift` (4.3 to 4.5).
use Rattle.std.specs.Prelude.{ℕ, ◌+◌, Bool, true, false, not, ◌&&◌, ◌||◌, min, nat_eq, nat_lt, int_le, ℤ, pos, if◌then◌else◌, List, Option, Some, None, codes, unwrap_or}
use Rattle.std.specs.Option.{option_and_then}
use Rattle.css_lengths.specs.Lengths.{length_of, resolved}
use Rattle.css_lengths.specs.declared.lengths.LengthText.{LengthText}
use Rattle.font_metrics.specs.Metrics.{MetricsValue, ex_of}
use Rattle.math_tree.specs.Attributes.{truth_of_word, value_of}
use Rattle.math_tree.specs.Kinds.{is_scripted}
use Rattle.math_tree.specs.declared.attributes.Attribute.{Attribute}
use Rattle.math_tree.specs.declared.kind.Kind.{Kind}
use Rattle.math_tree.specs.declared.kind.Kind.TheVariants.{Mfrac, Mmultiscripts, Mover, Mroot, Msqrt, Msub, Msubsup, Mtable, Munder, Munderover}
use Rattle.style_scope.specs.declared.style.Place.{Place}
use Rattle.style_scope.specs.declared.style.Style.{Style}
use Rattle.style_scope.specs.Words.{direction_of_word, level_of}

-- ---- by place

-- own choice: an accent below or above a base keeps the depth
abbrev pub is_accent_of : Kind → Place → Bool
is_accent_of Munder place = nat_eq place.index 1 && place.accentunder
is_accent_of Mover place = nat_eq place.index 1 && place.accent
is_accent_of Munderover place =
    (nat_eq place.index 1 && place.accentunder) || (nat_eq place.index 2 && place.accent)
is_accent_of other place = false

-- how many levels deeper than its parent a child stands; a part of a fraction stands deeper only
-- where the fraction isn't in display style
unfoldable pub levels_of : Kind → Place → Bool → ℕ
levels_of Mfrac place display = if display then 0 else 1
levels_of Mroot place display = if nat_eq place.index 1 then 2 else 0
levels_of parent place display =
    if is_scripted parent && nat_lt 0 place.index && not (is_accent_of parent place) then 1 else 0

-- whether a child is set in the compact style, whatever its parent's
unfoldable pub is_compact_in : Kind → Place → Bool
is_compact_in Mfrac place = true
is_compact_in Mroot place = nat_eq place.index 1
is_compact_in parent place = is_scripted parent && nat_lt 0 place.index

-- whether a child is cramped, whatever its parent: what stands below something, or under an accent
unfoldable pub is_cramped_in : Kind → Place → Bool
is_cramped_in Mfrac place = nat_eq place.index 1
is_cramped_in Msub place = nat_eq place.index 1
is_cramped_in Msubsup place = nat_eq place.index 1
is_cramped_in Mmultiscripts place = place.subscript
is_cramped_in Mover place = nat_eq place.index 0 && place.accent
is_cramped_in Munderover place = nat_eq place.index 0 && place.accent
is_cramped_in parent place = false

unfoldable pub by_place : Place → Style → Style
by_place place style = record style {
  depth = style.depth + levels_of place.parent place style.display;
  display = style.display && not (is_compact_in place.parent place);
  cramped = style.cramped || is_cramped_in place.parent place;
}

-- ---- by name

unfoldable pub by_name : Kind → Style → Style
by_name Msqrt style = record style { cramped = true }
by_name Mroot style = record style { cramped = true }
by_name Mtable style = record style { display = false }
by_name kind style = style

-- ---- by attributes

-- own choice: no depth is below 0 or above 15
unfoldable pub by_level : ℕ → List Attribute → Style → Style
by_level parent_depth attributes style = record style {
  depth = min 15 (unwrap_or
      (option_and_then (level_of parent_depth) (value_of (codes "scriptlevel") attributes))
      style.depth);
}

-- HTML's `dir`
unfoldable pub by_direction : List Attribute → Style → Style
by_direction attributes style = record style {
  rtl = unwrap_or (option_and_then direction_of_word (value_of (codes "dir") attributes)) style.rtl;
}

unfoldable pub by_display : List Attribute → Style → Style
by_display attributes style = record style {
  display = unwrap_or (option_and_then truth_of_word (value_of (codes "displaystyle") attributes))
      style.display;
}

-- a length that isn't negative as it is written
abbrev pub size_written : List Attribute → Option LengthText
size_written attributes =
    option_and_then (λ length. if int_le (pos 0) length.millionths then Some length else None)
    (option_and_then length_of (value_of (codes "mathsize") attributes))

-- a size is given at the depth at which it stands; what it is relative to is the parent's size
unfoldable pub by_size : MetricsValue → ℤ → Option LengthText → Style → Style
by_size m parent_size None style = style
by_size m parent_size (Some length) style = record style {
  base = resolved length parent_size (ex_of m parent_size) parent_size;
  base_depth = style.depth;
}
