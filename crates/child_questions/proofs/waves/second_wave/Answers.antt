use Rattle.std.proofs.Common.{◌∙◌, ap, subst, sym, arith, length, map}
use Rattle.std.specs.List.{All}
use Rattle.std.proofs.lemmas.List.Elements.{All-nil}
use Rattle.embellished.specs.Seen.{seen_of}
use Rattle.layout_model.specs.Answers.{questions_in}
use Rattle.layout_model.specs.Fits.{HasStyle}
use Rattle.layout_model.specs.Questions.{IsAskBelow}
use Rattle.layout_model.proofs.Places.{as_many_pulls, second_asks_below}
use Rattle.child_questions.specs.declared.survey.Survey.{Survey}
use Rattle.child_questions.specs.Surveys.{has_one_wave}
use Rattle.child_questions.proofs.Unstretched.{one_wave}
use Rattle.child_questions.proofs.waves.second_wave.Goals as goal

pub second_asks-requires : goal.second_asks-requires
second_asks-requires g c =
    let seen = seen_of (g.V.View.element c.args.view.now) in
    let each = ap (λ (s : Survey). length s.pulls) c.requires.known ∙ as_many_pulls c.args.metrics.now seen c.args.context.now in
    omega (arith, each, c.kids-count.ensures.count, c.kids-count.ensures.few)

pub asked_all-requires-clause-within : goal.asked_all-requires-clause-within
asked_all-requires-clause-within g c =
    let seen = seen_of (g.V.View.element c.args.view.now) in
    let n = length seen.kids in
    let each = ap (λ (s : Survey). length s.pulls) c.requires.known ∙ as_many_pulls c.args.metrics.now seen c.args.context.now in
    subst (All (IsAskBelow n)) (sym (c.in_ok-asks.ensures {u = tt})) (second_asks_below n _ _ _ _ each)

pub returns-then-has_one_wave-clause-value : goal.returns-then-has_one_wave-clause-value
returns-then-has_one_wave-clause-value g c =
    let seen = seen_of (g.V.View.element c.args.view.now) in
    let one = ap has_one_wave (sym c.requires.known) ∙ sym c.has_one_wave.ensures ∙ c.if-has_one_wave.true in
    ap questions_in c.make.ensures ∙ sym (one_wave c.args.metrics.now seen c.args.context.now (map (g.A.Answered.told) c.args.one.now) one)

pub returns-then-has_one_wave-clause-styles : goal.returns-then-has_one_wave-clause-styles
returns-then-has_one_wave-clause-styles g c = subst (All HasStyle) (sym (ap questions_in c.make.ensures)) (All-nil HasStyle)
