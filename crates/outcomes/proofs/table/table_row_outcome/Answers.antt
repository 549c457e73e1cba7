use Rattle.std.proofs.Common.{◌∙◌, ap, List, map}
use Rattle.fixed_units.specs.declared.boxes.MathBox.{MathBox}
use Rattle.outcomes.proofs.CellBounds.{width_of}
use Rattle.outcomes.proofs.table.table_row_outcome.Goals as goal

pub over_row-outcome-requires-clause-widths : goal.over_row-outcome-requires-clause-widths
over_row-outcome-requires-clause-widths g c =
    (c.in_ok-widths.ensures {u = tt}).value ∙ ap (λ (frames : List MathBox). map width_of frames) (c.as_slice.ensures ∙ (c.in_ok-cells.ensures {u = tt}).value)
