use Rattle.std.proofs.Common.{◌≡◌, ◌∙◌, sym, ap, subst, ◌^◌, ◌++◌, List, All, ℤ, rules, w64, FitsSigned}
use Rattle.std.proofs.lemmas.Int.{to_z-of_z}
use Rattle.std.proofs.lemmas.Result.{IfOk-weaker}
use Rattle.fixed_units.specs.Boxes.{farthest}
use Rattle.fixed_units.specs.Numbers.{IsWithin}
use Rattle.math_tables.specs.Placing.{row_of_cells_of}
use Rattle.row_stretch.specs.declared.parts.Row.{Row}
use Rattle.outcomes.proofs.CellBounds.{cell_offsets_in}
use Rattle.outcomes.proofs.table.in_columns.Goals as goal

pub row_of_cells-requires-clause-widths_fit : goal.row_of_cells-requires-clause-widths_fit
row_of_cells-requires-clause-widths_fit c =
    let same = (c.in_ok-push_all.ensures {u = tt}).ok ∙ ap (λ (made : List ℤ). made ++ c.args.columns.now) c.make-widths.ensures in
    subst (All (IsWithin farthest)) (sym same) c.requires.columns_fit

pub returns-clause-value : goal.returns-clause-value
returns-clause-value c =
    let fits : FitsSigned w64 c.args.total = search rules in
    let total = to_z-of_z w64 c.args.total fits in
    let same = (c.in_ok-push_all.ensures {u = tt}).ok ∙ ap (λ (made : List ℤ). made ++ c.args.columns.now) c.make-widths.ensures in
    IfOk-weaker c.row_of_cells.result _ (λ (row : Row). row ≡ row_of_cells_of c.args.cells.now c.args.columns.now c.args.total)
    (λ row e. e ∙ (λ i. row_of_cells_of c.args.cells.now (same i) (total i))) c.row_of_cells.ensures

pub returns-clause-within : goal.returns-clause-within
returns-clause-within c =
    let cells = c.args.cells.now in
    let same = (c.in_ok-push_all.ensures {u = tt}).ok ∙ ap (λ (made : List ℤ). made ++ c.args.columns.now) c.make-widths.ensures in
    let fit = subst (All (IsWithin farthest)) (sym same) c.requires.columns_fit in
    IfOk-weaker c.row_of_cells.result _ (λ (row : Row). All (IsWithin (2 ^ 61)) row.offsets)
    (λ row e. subst (λ (r : Row). All (IsWithin (2 ^ 61)) r.offsets) (sym e) (cell_offsets_in cells _ c.requires.few c.requires.stored fit)) c.row_of_cells.ensures
