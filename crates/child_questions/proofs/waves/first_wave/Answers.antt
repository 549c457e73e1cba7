use Rattle.std.proofs.Common.{◌∙◌, ap, subst, sym, arith, length}
use Rattle.std.specs.List.{All}
use Rattle.embellished.specs.Seen.{seen_of}
use Rattle.layout_model.specs.Questions.{IsAskBelow}
use Rattle.layout_model.proofs.Places.{as_many_pulls, first_asks_below}
use Rattle.child_questions.specs.declared.survey.Survey.{Survey}
use Rattle.child_questions.proofs.waves.first_wave.Goals as goal

pub first_asks-requires : goal.first_asks-requires
first_asks-requires g c =
    let seen = seen_of (g.V.View.element c.args.view.now) in
    let each = ap (λ (s : Survey). length s.pulls) c.requires.known ∙ as_many_pulls c.args.metrics.now seen c.args.context.now in
    omega (arith, each, c.kids-count.ensures.count, c.kids-count.ensures.few)

pub asked_all-requires-clause-within : goal.asked_all-requires-clause-within
asked_all-requires-clause-within g c =
    let seen = seen_of (g.V.View.element c.args.view.now) in
    let n = length seen.kids in
    let each = ap (λ (s : Survey). length s.pulls) c.requires.known ∙ as_many_pulls c.args.metrics.now seen c.args.context.now in
    subst (All (IsAskBelow n)) (sym (c.in_ok-asks.ensures {u = tt})) (first_asks_below n _ _ _ each)
