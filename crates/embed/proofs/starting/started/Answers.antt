use Rattle.std.proofs.Common.{◌≡◌, ◌∙◌, Some, ap, rules, subst, sym}
use Rattle.embed.specs.Calls.{Starts, seen}
use Rattle.embed.proofs.starting.started.Goals as goal

-- the metrics that were taken out are those of the handle
pub returns-in-Some-clause-starts : goal.returns-in-Some-clause-starts
returns-in-Some-clause-starts c =
    let same : c.as_ref.result.now ≡ c.in-Some.metrics.value = search rules in
    let kept : Some c.as_ref.result.now ≡ c.args.font.now.kept = ap Some same ∙ sym c.in-Some.ensures.taken in
    subst (λ font. Starts font c.args.tree.now (seen c.args.handle.now.kept c.args.refusal.now c.args.refusal_len.now)
    (seen c.started_over-answer.new.handle.kept c.started_over-answer.new.refusal c.started_over-answer.new.refusal_len) c.started_over-answer.result)
    kept c.started_over-answer.ensures
