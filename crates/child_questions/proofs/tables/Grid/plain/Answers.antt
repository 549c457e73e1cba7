use Rattle.std.proofs.Common.{◌≡◌, ◌∙◌, sym, ap, subst, arith, ◌^◌, lit<, lit≤, length, All, map, w64, to_z, of_z}
use Rattle.std.proofs.lemmas.Int.{to_z-of_z}
use Rattle.fixed_units.proofs.Within.{fits_i64, widened}
use Rattle.math_tables.specs.Placing.{IsColumn, table_width_of}
use Rattle.layout_model.specs.Tables.{columns_over}
use Rattle.layout_model.proofs.Ranges.{columns_few, columns_in}
use Rattle.layout_model.proofs.TableCells.{each_few}
use Rattle.child_questions.specs.declared.tables.Grid.TheVariants.{Plain}
use Rattle.child_questions.proofs.tables.Grid.plain.Goals as goal

pub total_width-total-requires-clause-few : goal.total_width-total-requires-clause-few
total_width-total-requires-clause-few g c =
    let rows = map (g.A.Answered.told) c.args.rows.now in
    let e = c.as_slice.ensures ∙ c.in_ok-widths.ensures {u = tt} in
    omega (arith, ap length e, columns_few 65_536 rows (each_few 65_536 rows c.requires.few))

pub total_width-total-requires-clause-within : goal.total_width-total-requires-clause-within
total_width-total-requires-clause-within g c =
    let rows = map (g.A.Answered.told) c.args.rows.now in
    let e = c.as_slice.ensures ∙ c.in_ok-widths.ensures {u = tt} in
    subst (All IsColumn) (sym e) (λ k d l. widened (2 ^ 36) (columns_in rows c.requires.fit k d l) (lit≤ tt))

pub returns : goal.returns
returns g c =
    let rows = map (g.A.Answered.told) c.args.rows.now in
    let widths : c.in_ok-widths.widths ≡ columns_over rows = c.in_ok-widths.ensures {u = tt} in
    let total : to_z w64 (of_z w64 c.total_width-total.result) ≡ table_width_of (columns_over rows) =
    to_z-of_z w64 c.total_width-total.result (fits_i64 c.total_width-total.ensures.within (lit< tt)) ∙ c.total_width-total.ensures.value
    ∙ ap table_width_of (c.as_slice.ensures ∙ widths) in
    λ i. Plain (total i) (widths i)
