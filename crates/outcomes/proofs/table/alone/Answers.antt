use Rattle.std.proofs.Common.{sym, subst, ◌^◌, All}
use Rattle.std.proofs.lemmas.Result.{IfOk-weaker}
use Rattle.fixed_units.specs.Numbers.{IsWithin}
use Rattle.math_tables.specs.Placing.{IsColumn}
use Rattle.row_stretch.specs.declared.parts.Row.{Row}
use Rattle.outcomes.proofs.CellBounds.{cell_offsets_in}
use Rattle.outcomes.proofs.SpannedTables.{stored_columns}
use Rattle.outcomes.proofs.table.alone.Goals as goal

pub total_width-requires-clause-within : goal.total_width-requires-clause-within
total_width-requires-clause-within c =
    subst (All IsColumn) (sym c.as_slice.ensures) (stored_columns c.args.widths.now c.requires.widths_fit)

pub returns-clause-within : goal.returns-clause-within
returns-clause-within c =
    IfOk-weaker c.row_of_cells.result _ (λ (row : Row). All (IsWithin (2 ^ 61)) row.offsets)
    (λ row e. subst (λ (r : Row). All (IsWithin (2 ^ 61)) r.offsets) (sym e)
    (cell_offsets_in c.args.cells.now c.args.widths.now c.requires.few c.requires.stored c.requires.widths_fit)) c.row_of_cells.ensures
