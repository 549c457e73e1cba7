use Rattle.std.proofs.Common.{◌≡◌, ◌∙◌, length, subst, sym, ap, arith, List}
use Rattle.std.specs.List.{All}
use Rattle.std.proofs.lemmas.List.{length-take}
use Rattle.fixed_units.proofs.Sums.{length-list_to}
use Rattle.span_tables.specs.declared.cells.SpanCell.{SpanCell}
use Rattle.span_tables.specs.Standing.{IsOneEach, reach, stand_rows, first_columns_of}
use Rattle.span_tables.specs.Widths.{IsColumn, base_width_of, base_widths_of}
use Rattle.span_tables.specs.Largest.{IsStandingStored}
use Rattle.span_tables.proofs.Growing.{base_in, stored_below}
use Rattle.span_tables.proofs.Shapes.{one_each, few_columns}
use Rattle.span_tables.proofs.widths.span_columns.Goals as goal
use Rattle.span_tables.proofs.widths.span_columns.Goals.{After-as_slice-4}

pub stand_all-requires-clause-each : goal.stand_all-requires-clause-each
stand_all-requires-clause-each c =
    let same = c.as_slice-2.ensures ∙ c.requires.firsts ∙ ap first_columns_of (sym c.as_slice.ensures) in
    subst (IsOneEach c.as_slice.result.now) (sym same) (one_each c.as_slice.result.now)

stood : (c : After-as_slice-4) → c.in_ok-cells.cells.items ≡ stand_rows 0 c.args.rows.now c.args.firsts.now
stood c = c.in_ok-cells.ensures {u = tt} ∙ ap (λ (rows : List (List SpanCell)). stand_rows 0 rows c.as_slice-2.result.now) c.as_slice.ensures
    ∙ ap (stand_rows 0 c.args.rows.now) c.as_slice-2.ensures

stored : (c : After-as_slice-4) → All IsStandingStored c.in_ok-cells.cells.items
stored c = subst (All IsStandingStored) (sym (stood c)) (stored_below 0 c.args.rows.now c.args.firsts.now c.requires.spans c.requires.stored)

widths_are : (c : After-as_slice-4) → c.as_mut_slice.result.now ≡ base_widths_of c.in_ok-cells.cells.items
widths_are c = c.as_mut_slice.ensures.value ∙ c.in_ok-widths.ensures {u = tt} ∙ ap base_widths_of c.as_slice-3.ensures.value

pub widen_all-requires-clause-columns : goal.widen_all-requires-clause-columns
widen_all-requires-clause-columns c = let d = (goal.at.widen_all-requires-clause-columns c).After-as_slice-4 in
    subst (All IsColumn) (sym (widths_are d)) (base_in _ (stored d))

pub widen_all-requires-clause-cells : goal.widen_all-requires-clause-cells
widen_all-requires-clause-cells c = let d = (goal.at.widen_all-requires-clause-cells c).After-as_slice-4 in
    subst (All IsStandingStored) (sym c.as_slice-4.ensures.value) (stored d)

pub widen_all-requires-clause-inside : goal.widen_all-requires-clause-inside
widen_all-requires-clause-inside c = let d = (goal.at.widen_all-requires-clause-inside c).After-as_slice-4 in
    let long = ap length (widths_are d) ∙ length-list_to (reach c.in_ok-cells.cells.items) (base_width_of c.in_ok-cells.cells.items) in
    let same = ap reach c.as_slice-4.ensures.value in
    omega arith

pub returns-clause-few : goal.returns-clause-few
returns-clause-few c = let d = (goal.at.returns-clause-few c).After-as_slice-4 in
    let long = ap length (widths_are d) ∙ length-list_to (reach c.in_ok-cells.cells.items) (base_width_of c.in_ok-cells.cells.items) in
    let same = ap reach (stood d ∙ ap (stand_rows 0 c.args.rows.now) c.requires.firsts) in
    let few = few_columns c.args.rows.now c.requires.spans in
    let made = c.as_mut_slice.ensures.len in
    let kept = ap length c.from.ensures ∙ length-take c.in_ok-widths.widths.len _ in
    omega arith
