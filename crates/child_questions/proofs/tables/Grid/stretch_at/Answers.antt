use Rattle.std.proofs.Common.{◌≡◌, ◌∙◌, sym, ap, subst, arith, lit<, ◌^◌, length, All, map, take, List, ◌∷◌, ℤ, w64, to_z, of_z}
use Rattle.std.proofs.lemmas.Result.{IfOk-weaker}
use Rattle.fixed_units.specs.Numbers.{IsWithin}
use Rattle.span_tables.proofs.SlotBounds.{columns_few as spanned_few, columns_within}
use Rattle.span_tables.proofs.Starts.{length-starts_of, starts_in}
use Rattle.std.proofs.lemmas.Int.{to_z-of_z}
use Rattle.fixed_units.proofs.Within.{fits_i64, widened}
use Rattle.math_tables.specs.Placing.{table_width_of}
use Rattle.math_tables.proofs.Places.{start_of_in}
use Rattle.layout_model.specs.Tables.{cells_at, cells_of_rows, columns_at, columns_over, spanned_columns, stretch_at}
use Rattle.layout_model.specs.declared.context.Stretch.{Stretch}
use Rattle.layout_model.specs.declared.context.Stretch.TheVariants.{Columns}
use Rattle.layout_model.proofs.Ranges.{answers_stored, columns_few, columns_in}
use Rattle.layout_model.proofs.TableCells.{each_few, rows_count, rows_span, rows_stored}
use Rattle.child_questions.proofs.Grids.{spanning_inside, stretch-plain, stretch-spanning, tells_plain, tells_spanning}
use Rattle.child_questions.proofs.tables.Grid.stretch_at.Goals as goal

pub slots_at-requires-clause-some : goal.slots_at-requires-clause-some
slots_at-requires-clause-some g c =
    let rows = map (g.A.Answered.told) c.args.rows.now in
    let t = tells_spanning rows c.in-Spanning.cells c.in-Spanning.firsts c.in-Spanning.starts (sym c.requires.known ∙ c.in-Spanning.is) in
    omega (arith, ap (λ (list : List ℤ). length list) t.starts_are, length-starts_of (spanned_columns rows))

pub slots_at-requires-clause-within : goal.slots_at-requires-clause-within
slots_at-requires-clause-within g c =
    let rows = map (g.A.Answered.told) c.args.rows.now in
    let fit = c.requires.answers in
    let t = tells_spanning rows c.in-Spanning.cells c.in-Spanning.firsts c.in-Spanning.starts (sym c.requires.known ∙ c.in-Spanning.is) in
    let cells = cells_of_rows rows in
    let spans = rows_span rows fit.spans in
    subst (All (IsWithin (2 ^ 58))) (sym t.starts_are)
    (starts_in (spanned_columns rows) (columns_within cells spans (rows_stored rows (answers_stored rows fit.fit)))
    (spanned_few cells spans (omega (arith, rows_count rows, fit.few))))

pub slots_at-requires-clause-inside : goal.slots_at-requires-clause-inside
slots_at-requires-clause-inside g c =
    let rows = map (g.A.Answered.told) c.args.rows.now in
    spanning_inside rows c.args.index c.in-Spanning.cells c.in-Spanning.firsts c.in-Spanning.starts
    (tells_spanning rows c.in-Spanning.cells c.in-Spanning.firsts c.in-Spanning.starts (sym c.requires.known ∙ c.in-Spanning.is))

pub returns-in-Spanning : goal.returns-in-Spanning
returns-in-Spanning g c =
    let rows = map (g.A.Answered.told) c.args.rows.now in
    let t = tells_spanning rows c.in-Spanning.cells c.in-Spanning.firsts c.in-Spanning.starts (sym c.requires.known ∙ c.in-Spanning.is) in
    IfOk-weaker c.slots_at.result _ (λ (stretch : Stretch). stretch ≡ stretch_at rows c.args.index)
    (λ stretch e. e ∙ stretch-spanning rows c.args.index c.in-Spanning.cells c.in-Spanning.firsts c.in-Spanning.starts t) c.slots_at.ensures

pub returns-in-Plain : goal.returns-in-Plain
returns-in-Plain g c =
    let rows = map (g.A.Answered.told) c.args.rows.now in
    let t = tells_plain rows c.in-Plain.total c.in-Plain.widths (sym c.requires.known ∙ c.in-Plain.is) in
    let widths = columns_over rows in
    let fit = c.requires.answers in
    let few = columns_few 65_536 rows (each_few 65_536 rows fit.few) in
    let within = widened (2 ^ 58) (start_of_in widths (length widths) (columns_in rows fit.fit)) (omega (arith, few)) in
    let total : to_z w64 (of_z w64 c.in-Plain.total) ≡ table_width_of widths =
    to_z-of_z w64 c.in-Plain.total (fits_i64 (subst (IsWithin (2 ^ 58)) (sym t.total_is) within) (lit< tt)) ∙ t.total_is in
    IfOk-weaker c.columns_at.result _ (λ (stretch : Stretch). stretch ≡ stretch_at rows c.args.index)
    (λ stretch e. e
    ∙ (λ i. Columns (total i ∷ take (c.cells_at.ensures i) (t.widths_are i)))
    ∙ sym (stretch-plain rows c.args.index t.none)) c.columns_at.ensures
