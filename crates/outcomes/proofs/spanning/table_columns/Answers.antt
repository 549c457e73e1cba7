use Rattle.std.proofs.Common.{◌≡◌, ◌≤◌, ◌∙◌, sym, ap, subst, arith, length, All, List, ℤ}
use Rattle.std.proofs.lemmas.Result.{IfOk-weaker}
use Rattle.math_tables.specs.Placing.{IsColumn, most_columns}
use Rattle.layout_model.specs.Tables.{columns_over, has_spans, table_columns}
use Rattle.layout_model.proofs.Ranges.{columns_in}
use Rattle.outcomes.proofs.CellBounds.{columns_at_most}
use Rattle.outcomes.proofs.SpannedTables.{columns-plain, columns-spanned, stored_columns}
use Rattle.outcomes.proofs.spanning.table_columns.Goals as goal

pub returns-then-has_spans-clause-value : goal.returns-then-has_spans-clause-value
returns-then-has_spans-clause-value g c =
    let kids = c.args.e.now.kids in
    let some = ap has_spans (sym c.answers.ensures) ∙ sym c.has_spans.ensures ∙ c.if-has_spans.true in
    IfOk-weaker c.spanned_columns.result _ (λ (widths : List ℤ). widths ≡ table_columns kids)
    (λ widths e. e ∙ sym (columns-spanned kids some)) c.spanned_columns.ensures.value

pub returns-else-has_spans-clause-value : goal.returns-else-has_spans-clause-value
returns-else-has_spans-clause-value g c =
    let kids = c.args.e.now.kids in
    let none = ap has_spans (sym c.answers.ensures) ∙ sym c.has_spans.ensures ∙ c.if-has_spans.false in
    IfOk-weaker c.plain_columns.result _ (λ (widths : List ℤ). widths ≡ table_columns kids)
    (λ widths e. e ∙ sym (columns-plain kids none)) c.plain_columns.ensures

pub returns-else-has_spans-clause-few : goal.returns-else-has_spans-clause-few
returns-else-has_spans-clause-few g c =
    let kids = c.args.e.now.kids in
    IfOk-weaker c.plain_columns.result _ (λ (widths : List ℤ). length widths ≤ most_columns)
    (λ widths e. omega (arith, ap length e, columns_at_most kids c.count-count.ensures.whole.cells)) c.plain_columns.ensures

pub returns-else-has_spans-clause-within : goal.returns-else-has_spans-clause-within
returns-else-has_spans-clause-within g c =
    let kids = c.args.e.now.kids in
    IfOk-weaker c.plain_columns.result _ (All IsColumn)
    (λ widths e. subst (All IsColumn) (sym e) (stored_columns (columns_over kids) (columns_in kids c.count-count.ensures.whole.stored))) c.plain_columns.ensures
