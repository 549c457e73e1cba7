use Rattle.std.proofs.Common.{rules, ◌≡◌, ◌∙◌, sym, ap, subst, w64, FitsSigned}
use Rattle.std.proofs.lemmas.Int.{to_z-of_z}
use Rattle.std.proofs.lemmas.Result.{IfOk-weaker}
use Rattle.math_tables.specs.Placing.{row_of_cells_of, row_of_slots_of}
use Rattle.row_stretch.specs.declared.parts.Row.{Row}
use Rattle.layout_model.specs.Equations.{cells_placed}
use Rattle.layout_model.specs.Fits.{IsStretch}
use Rattle.layout_model.specs.declared.context.Context.{Context}
use Rattle.outcomes.proofs.CellBounds.{slots_in}
use Rattle.outcomes.proofs.PlacedCells.{columns_in, few_cells, few_widths, in_columns_are, in_slots_are, no_columns_are, no_slots_are}
use Rattle.outcomes.proofs.table.cells_placed.Goals as goal

pub in_columns-requires-clause-few : goal.in_columns-requires-clause-few
in_columns-requires-clause-few g c =
    few_cells c.args.e.now c.args.cells.now c.count-count.result c.requires.cells c.count-count.ensures.kids c.count-count.ensures.few

pub in_columns-requires-clause-columns_fit : goal.in_columns-requires-clause-columns_fit
in_columns-requires-clause-columns_fit g c =
    columns_in c.args.e.now c.context.result.now c.context.ensures.value c.in-Columns.numbers c.as_slice.result.now c.as_slice.ensures c.in-Some.total.now c.in-Some.columns.now c.context.ensures.fits c.in-Columns.is (c.in-Some.ensures {u = tt}).cases.0

pub row_of_slots-requires-clause-few : goal.row_of_slots-requires-clause-few
row_of_slots-requires-clause-few g c =
    few_cells c.args.e.now c.args.cells.now c.count-count.result c.requires.cells c.count-count.ensures.kids c.count-count.ensures.few

pub row_of_slots-requires-clause-slots_within : goal.row_of_slots-requires-clause-slots_within
row_of_slots-requires-clause-slots_within g c =
    slots_in c.context.result.now.stretch _ c.as_slice-in-Slots.result.now c.in-Some-split_first.slots.now c.in-Some-split_first.total.now
    (subst IsStretch (sym (ap (λ (x : Context). x.stretch) c.context.ensures.value)) c.context.ensures.fits.stretch)
    c.in-Slots.is c.as_slice-in-Slots.ensures c.in-Some-split_first.ensures.cases.0

pub row_of_slots-requires-clause-cells_fit : goal.row_of_slots-requires-clause-cells_fit
row_of_slots-requires-clause-cells_fit g c =
    c.requires.stored

pub alone-requires-clause-few : goal.alone-requires-clause-few
alone-requires-clause-few g c =
    few_cells c.args.e.now c.args.cells.now c.count-count.result c.requires.cells c.count-count.ensures.kids c.count-count.ensures.few

pub alone-requires-clause-each : goal.alone-requires-clause-each
alone-requires-clause-each g c =
    few_widths c.args.e.now c.args.widths.now c.count-count.result c.requires.widths c.count-count.ensures.kids c.count-count.ensures.few

pub alone-requires-clause-stored : goal.alone-requires-clause-stored
alone-requires-clause-stored g c =
    c.requires.stored

pub alone-requires-clause-widths_fit : goal.alone-requires-clause-widths_fit
alone-requires-clause-widths_fit g c =
    c.requires.widths_fit

pub alone-requires-in-None-split_first-clause-few : goal.alone-requires-in-None-split_first-clause-few
alone-requires-in-None-split_first-clause-few g c =
    few_cells c.args.e.now c.args.cells.now c.count-count.result c.requires.cells c.count-count.ensures.kids c.count-count.ensures.few

pub alone-requires-in-None-split_first-clause-each : goal.alone-requires-in-None-split_first-clause-each
alone-requires-in-None-split_first-clause-each g c =
    few_widths c.args.e.now c.args.widths.now c.count-count.result c.requires.widths c.count-count.ensures.kids c.count-count.ensures.few

pub alone-requires-in-None-split_first-clause-stored : goal.alone-requires-in-None-split_first-clause-stored
alone-requires-in-None-split_first-clause-stored g c =
    c.requires.stored

pub alone-requires-in-None-split_first-clause-widths_fit : goal.alone-requires-in-None-split_first-clause-widths_fit
alone-requires-in-None-split_first-clause-widths_fit g c =
    c.requires.widths_fit

pub alone-requires-in_default : goal.alone-requires-in_default
alone-requires-in_default g c =
    record { few = few_cells c.args.e.now c.args.cells.now c.count-count.result c.requires.cells c.count-count.ensures.kids c.count-count.ensures.few; each = few_widths c.args.e.now c.args.widths.now c.count-count.result c.requires.widths c.count-count.ensures.kids c.count-count.ensures.few; stored = c.requires.stored; widths_fit = c.requires.widths_fit }

pub returns-in-Some-clause-value : goal.returns-in-Some-clause-value
returns-in-Some-clause-value g c =
    let fits : FitsSigned w64 c.in-Some.total.now = search rules in
    IfOk-weaker c.in_columns.result _ (λ (row : Row). row ≡ cells_placed c.args.e.now)
    (λ row made. in_columns_are c.args.e.now c.context.result.now c.context.ensures.value c.in-Columns.numbers c.as_slice.result.now c.as_slice.ensures c.in-Some.total.now c.in-Some.columns.now c.args.cells.now row c.in-Columns.is (c.in-Some.ensures {u = tt}).cases.0 c.requires.cells
    (made ∙ ap (row_of_cells_of c.args.cells.now c.in-Some.columns.now) (to_z-of_z w64 c.in-Some.total.now fits))) c.in_columns.ensures.value

pub returns-in-Some-clause-within : goal.returns-in-Some-clause-within
returns-in-Some-clause-within g c =
    c.in_columns.ensures.within

pub returns-in-None-clause-value : goal.returns-in-None-clause-value
returns-in-None-clause-value g c =
    IfOk-weaker c.alone.result _ (λ (row : Row). row ≡ cells_placed c.args.e.now)
    (λ row made. no_columns_are c.args.e.now c.context.result.now c.context.ensures.value c.in-Columns.numbers c.as_slice.result.now c.as_slice.ensures c.args.cells.now c.args.widths.now row c.in-Columns.is (c.in-None.ensures {u = tt}).cases c.requires.cells c.requires.widths made)
    c.alone.ensures.value

pub returns-in-None-clause-within : goal.returns-in-None-clause-within
returns-in-None-clause-within g c =
    c.alone.ensures.within

pub returns-in-Some-split_first-clause-value : goal.returns-in-Some-split_first-clause-value
returns-in-Some-split_first-clause-value g c =
    let fits : FitsSigned w64 c.in-Some-split_first.total.now = search rules in
    IfOk-weaker c.row_of_slots.result _ (λ (row : Row). row ≡ cells_placed c.args.e.now)
    (λ row made. in_slots_are c.args.e.now c.context.result.now c.context.ensures.value c.in-Slots.numbers c.as_slice-in-Slots.result.now c.as_slice-in-Slots.ensures c.in-Some-split_first.total.now c.in-Some-split_first.slots.now c.args.cells.now row c.in-Slots.is (c.in-Some-split_first.ensures {u = tt}).cases.0 c.requires.cells
    (made ∙ ap (row_of_slots_of c.args.cells.now c.in-Some-split_first.slots.now) (to_z-of_z w64 c.in-Some-split_first.total.now fits))) c.row_of_slots.ensures.value

pub returns-in-Some-split_first-clause-within : goal.returns-in-Some-split_first-clause-within
returns-in-Some-split_first-clause-within g c =
    c.row_of_slots.ensures.within

pub returns-in-None-split_first-clause-value : goal.returns-in-None-split_first-clause-value
returns-in-None-split_first-clause-value g c =
    IfOk-weaker c.alone-in-None-split_first.result _ (λ (row : Row). row ≡ cells_placed c.args.e.now)
    (λ row made. no_slots_are c.args.e.now c.context.result.now c.context.ensures.value c.in-Slots.numbers c.as_slice-in-Slots.result.now c.as_slice-in-Slots.ensures c.args.cells.now c.args.widths.now row c.in-Slots.is (c.in-None-split_first.ensures {u = tt}).cases c.requires.cells c.requires.widths made)
    c.alone-in-None-split_first.ensures.value

pub returns-in-None-split_first-clause-within : goal.returns-in-None-split_first-clause-within
returns-in-None-split_first-clause-within g c =
    c.alone-in-None-split_first.ensures.within
