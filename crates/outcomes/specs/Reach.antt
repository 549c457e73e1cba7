-- How far places are told: what can be stored is told as it is, and what can't be stored as
-- something that can't be stored either.
use Rattle.std.specs.Prelude.{◌^◌, ℤ, pos, neg_ℤ}
use Rattle.std.specs.Int.{int_max, int_min}
use Rattle.font_metrics.specs.declared.mark.Mark.{Mark}
use Rattle.font_metrics.specs.declared.mark.Mark.TheVariants.{Glyph, Rule, Built}
use Rattle.layout_model.specs.declared.outcome.Offset.{Offset}

-- a place, or the end of the reach that it is past
unfoldable pub reached : ℤ → ℤ
reached x = int_max (int_min x (pos (2 ^ 60))) (neg_ℤ (pos (2 ^ 60)))

abbrev pub offset_reached : Offset → Offset
offset_reached offset = record offset { x = reached offset.x }

abbrev pub mark_reached : Mark → Mark
mark_reached (Glyph x y size glyph) = Glyph (reached x) y size glyph
mark_reached (Rule x y width height) = Rule (reached x) y width height
mark_reached (Built x y size axis glyph count overlap) = Built (reached x) y size axis glyph count
    overlap
