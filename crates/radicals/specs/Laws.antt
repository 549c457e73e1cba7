-- What holds of all radicals, in terms of where their ink, their surd and their rule lie.
use Rattle.std.specs.Prelude.{ℤ, pos, ◌+ℤ◌, ◌-ℤ◌, ◌≤ℤ◌}
use Rattle.fixed_units.specs.declared.boxes.MathBox.{MathBox}
use Rattle.font_metrics.specs.declared.mark.Mark.{Mark}
use Rattle.font_metrics.specs.declared.mark.Mark.TheVariants.{Glyph, Rule, Built}
use Rattle.radicals.specs.declared.parts.Radical.{Radical}

-- where a mark begins
abbrev pub mark_start : Mark → ℤ
mark_start (Glyph x y size glyph) = x
mark_start (Rule x y width height) = x
mark_start (Built x y size axis glyph count overlap) = x

-- how deep a rule ends
abbrev pub lower_edge : Mark → ℤ
lower_edge (Rule x y width height) = y +ℤ height
lower_edge mark = pos 0

-- from the rule down to the ink of the base
abbrev pub gap_under_rule : MathBox → Radical → ℤ
gap_under_rule base radical = (radical.base.y -ℤ base.ink_ascent) -ℤ lower_edge radical.rule

pub record BeginsInside (radical : Radical) : Type 0 where
  pub index : pos 0 ≤ℤ radical.index.x
  pub surd : pos 0 ≤ℤ mark_start radical.surd
