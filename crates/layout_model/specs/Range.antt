-- Which numbers of a layout may be stored: each lies in -2^30 to 2^30 units, and a font size in 0
-- to 2^20.
use Rattle.std.specs.Prelude.{ℤ, pos, ◌^◌, int_le, Bool, ◌&&◌}
use Rattle.std.specs.List.{list_all}
use Rattle.fixed_units.specs.Boxes.{is_stored, is_box_stored}
use Rattle.font_metrics.specs.declared.mark.Mark.{Mark}
use Rattle.font_metrics.specs.declared.mark.Mark.TheVariants.{Glyph, Rule, Built}
use Rattle.span_tables.specs.declared.cells.CellSpan.{CellSpan}
use Rattle.layout_model.specs.declared.outcome.Answer.{Answer}
use Rattle.layout_model.specs.declared.outcome.Offset.{Offset}
use Rattle.layout_model.specs.declared.outcome.Outcome.{Outcome}

abbrev pub is_font_size : ℤ → Bool
is_font_size size = int_le (pos 0) size && int_le size (pos (2 ^ 20))

-- the heights of a cell
abbrev pub span_fits : CellSpan → Bool
span_fits span = is_stored span.ascent && is_stored span.descent

-- the box, the spaces round it, and the widths and heights of cells
unfoldable pub answer_fits : Answer → Bool
answer_fits answer =
    is_box_stored answer.frame && is_stored answer.before && is_stored answer.after
    && list_all is_stored answer.cells
    && list_all span_fits answer.spans

unfoldable pub offset_fits : Offset → Bool
offset_fits offset = is_stored offset.x && is_stored offset.y

-- the place of a mark and its size: the font size of a glyph or an assembly, width and height of a
-- rule
unfoldable pub mark_fits : Mark → Bool
mark_fits (Glyph x y size glyph) = is_stored x && is_stored y && is_stored size
mark_fits (Rule x y width height) = is_stored x && is_stored y && is_stored width
    && is_stored height
mark_fits (Built x y size axis glyph count overlap) = is_stored x && is_stored y && is_stored size

-- every number of an outcome
unfoldable pub outcome_fits : Outcome → Bool
outcome_fits outcome = answer_fits outcome.answer && list_all offset_fits outcome.offsets
    && list_all mark_fits outcome.marks
