use Rattle.std.proofs.Common.{◌≡◌, ◌∙◌, ◌<◌, sym, ap, arith, true, nat_lt, length, get_or, map}
use Rattle.std.proofs.lemmas.Bool.{lt-ltb}
use Rattle.std.proofs.lemmas.List.{get_or-map, length-map}
use Rattle.std.proofs.lemmas.List.Folds.{list_any_at}
use Rattle.layout_model.specs.Answers.{no_answer}
use Rattle.layout_model.specs.declared.outcome.Answer.{Answer}
use Rattle.layout_model.proofs.tables.has_spans.Goals as goal

pub returns-then-len-gt0 : goal.returns-then-len-gt0
returns-then-len-gt0 g c =
    let told = g.A.Answered.told in
    let rows = c.args.rows.now in
    let i = c.loop-row.row-index in
    let row = c.row-item.result in
    let within = c.loop-row-test.true in
    let here : get_or (map told rows) i no_answer ≡ c.answer.result.now =
    get_or-map told rows i row no_answer within ∙ ap told (sym c.row-item.is) ∙ sym c.answer.ensures in
    let some : 0 < c.len.result = omega (arith, c.if-len-gt0.true) in
    let spans : nat_lt 0 (length (get_or (map told rows) i no_answer).spans) ≡ true =
    ap (λ (answer : Answer). nat_lt 0 (length answer.spans)) here ∙ lt-ltb 0 (length c.answer.result.now.spans) (omega (arith, some, c.len.ensures)) in
    sym (list_any_at (λ (answer : Answer). nat_lt 0 (length answer.spans)) (map told rows) i no_answer (omega (arith, within, length-map rows told)) spans)
