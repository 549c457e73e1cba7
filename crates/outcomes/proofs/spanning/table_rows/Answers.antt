use Rattle.std.proofs.Common.{◌≡◌, ◌≤◌, ◌∙◌, sym, ap, arith, length, All, List}
use Rattle.std.proofs.lemmas.List.{length-map}
use Rattle.std.proofs.lemmas.Result.{IfOk-weaker}
use Rattle.fixed_units.specs.declared.boxes.MathBox.{MathBox}
use Rattle.fixed_units.proofs.Sums.{length-list_to}
use Rattle.math_tables.specs.Placing.{HasHeights}
use Rattle.layout_model.specs.Tables.{has_spans, spanned_row, table_rows}
use Rattle.layout_model.specs.declared.outcome.Answer.{Answer}
use Rattle.outcomes.proofs.SpannedTables.{rows-plain, rows-spanned, stored_rows}
use Rattle.outcomes.proofs.spanning.table_rows.Goals as goal

pub returns-then-has_spans-clause-value : goal.returns-then-has_spans-clause-value
returns-then-has_spans-clause-value g c =
    let kids = c.args.e.now.kids in
    let some = ap has_spans (sym c.answers.ensures) ∙ sym c.has_spans.ensures ∙ c.if-has_spans.true in
    IfOk-weaker c.spanned_rows.result _ (λ (rows : List MathBox). rows ≡ table_rows kids)
    (λ rows e. e ∙ sym (rows-spanned kids some)) c.spanned_rows.ensures.value

pub returns-then-has_spans-clause-few : goal.returns-then-has_spans-clause-few
returns-then-has_spans-clause-few g c =
    let kids = c.args.e.now.kids in
    IfOk-weaker c.spanned_rows.result _ (λ (rows : List MathBox). length rows ≤ 65_536)
    (λ rows e. omega (arith, ap length e, length-list_to (length kids) (spanned_row kids), c.count-count.ensures.few, c.count-count.ensures.kids)) c.spanned_rows.ensures.value

pub returns-else-has_spans-clause-value : goal.returns-else-has_spans-clause-value
returns-else-has_spans-clause-value g c =
    let kids = c.args.e.now.kids in
    let none = ap has_spans (sym c.answers.ensures) ∙ sym c.has_spans.ensures ∙ c.if-has_spans.false in
    IfOk-weaker c.frames.result _ (λ (rows : List MathBox). rows ≡ table_rows kids)
    (λ rows e. e ∙ sym (rows-plain kids none)) c.frames.ensures.value

pub returns-else-has_spans-clause-few : goal.returns-else-has_spans-clause-few
returns-else-has_spans-clause-few g c =
    let kids = c.args.e.now.kids in
    IfOk-weaker c.frames.result _ (λ (rows : List MathBox). length rows ≤ 65_536)
    (λ rows e. omega (arith, ap length e, length-map kids (λ (row : Answer). row.frame), c.count-count.ensures.few, c.count-count.ensures.kids)) c.frames.ensures.value

pub returns-else-has_spans-clause-within : goal.returns-else-has_spans-clause-within
returns-else-has_spans-clause-within g c =
    IfOk-weaker c.frames.result _ (All HasHeights) (λ rows all. stored_rows rows all) c.frames.ensures.stored
