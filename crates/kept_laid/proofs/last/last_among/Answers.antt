use Rattle.std.proofs.Common.{◌∙◌, ap, List, ◌++◌, arith}
use Rattle.std.proofs.lemmas.List.{length-map, take_all}
use Rattle.layout_model.specs.Answers.{questions_in}
use Rattle.layout_model.specs.Layout.{last_context}
use Rattle.layout_model.specs.declared.context.Question.{Question}
use Rattle.layout_model.proofs.Replies.{asked_at, asked_within, question_of}
use Rattle.kept_laid.specs.Last.{seen_context}
use Rattle.kept_laid.proofs.LastAsked.{asked_before, asked_now}
use Rattle.kept_laid.proofs.last.last_among.Goals.{then-asked-kid, else-asked-kid}
use Rattle.kept_laid.proofs.last.last_among.Goals as goal

pub loop-asked-preserved : goal.loop-asked-preserved
loop-asked-preserved c = λ earlier before.
    let q = c.asked-item.result.question in
    let asks = questions_in c.as_slice-asked-items.result.now in
    let within = asked_within _ _ c.loop-asked-test.true in
    let is = asked_at _ _ _ c.loop-asked-test.true c.asked-item.is in
    let so_far = c.loop-asked.invariant earlier before in
    elim c.if-asked-kid.branch [
      | then-asked-kid w ↦
          ap seen_context w.last-is
          ∙ asked_now earlier asks c.loop-asked.asked-index q c.args.kid (seen_context c.loop-asked.last) within is so_far w.if-asked-kid.true
      | else-asked-kid w ↦
          ap seen_context w.last-is
          ∙ asked_before earlier asks c.loop-asked.asked-index q c.args.kid (seen_context c.loop-asked.last) within is so_far w.if-asked-kid.false
    ]

pub returns : goal.returns
returns c = λ earlier before.
    c.loop-asked.invariant earlier before
    ∙ ap (λ (asks : List Question). last_context (earlier ++ asks) c.args.kid)
    (take_all c.loop-asked.asked-index (questions_in c.as_slice-asked-items.result.now) (omega (arith, c.loop-asked-test.false, length-map c.as_slice-asked-items.result.now question_of))
    ∙ ap questions_in c.as_slice-asked-items.ensures)
