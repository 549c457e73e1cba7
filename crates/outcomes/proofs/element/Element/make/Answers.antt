use Rattle.std.proofs.Common.{◌≡◌, ◌∙◌, sym, ap, subst, ℕ, arith, lit<, List, ◌++◌, length, All, Option, ℤ, is_some, true≢false, to_z, of_z, w64}
use Rattle.embellished.specs.Seen.{seen_of}
use Rattle.font_metrics.proofs.Scaling.{back64, size_in}
use Rattle.style_scope.specs.Sizes.{IsSize}
use Rattle.layout_model.specs.Answers.{answers_in, questions_in}
use Rattle.layout_model.specs.Elements.{Element}
use Rattle.layout_model.specs.Fits.{HasFont}
use Rattle.layout_model.specs.Questions.{IsBelow}
use Rattle.layout_model.specs.declared.outcome.Answer.{Answer}
use Rattle.layout_model.proofs.KidFonts.{kid_font}
use Rattle.layout_model.proofs.Places.{first_below, second_below}
use Rattle.layout_model.proofs.Replies.{as_many}
use Rattle.outcomes.specs.Elements.{IsWhole}
use Rattle.outcomes.proofs.Kids.{last_are, size_found, small_is_found, whole}
use Rattle.outcomes.proofs.element.Element.make.Goals as goal

pub last_answers-requires-clause-one_within : goal.last_answers-requires-clause-one_within
last_answers-requires-clause-one_within g c =
    let seen = seen_of (g.V.View.element c.args.view.now) in
    subst (λ (n : ℕ). All (IsBelow n) (questions_in c.args.one.now)) (sym c.kids-count.ensures.count)
    (subst (All (IsBelow (length seen.kids))) (sym c.requires.replies.one_asked) (first_below c.args.metrics.now seen c.args.context.now))

pub last_answers-requires-clause-two_within : goal.last_answers-requires-clause-two_within
last_answers-requires-clause-two_within g c =
    let seen = seen_of (g.V.View.element c.args.view.now) in
    subst (λ (n : ℕ). All (IsBelow n) (questions_in c.args.two.now)) (sym c.kids-count.ensures.count)
    (subst (All (IsBelow (length seen.kids))) (sym c.requires.replies.two_asked) (second_below c.args.metrics.now seen c.args.context.now (answers_in c.args.one.now)))

pub returns : goal.returns
returns g c =
    let m = c.args.metrics.now in
    let seen = seen_of (g.V.View.element c.args.view.now) in
    let context = c.args.context.now in
    let over : List Answer → Element = λ kids. record { metrics = m; seen = seen; context = context; kids = kids } in
    ap over (last_are m seen context (questions_in c.args.one.now) (questions_in c.args.two.now) (answers_in c.args.one.now) (answers_in c.args.two.now) _ c.kids-count.result c.requires.replies.one_asked c.requires.replies.two_asked
    c.kids-count.ensures.count (c.in_ok-kids.ensures {u = tt}))

pub unreachable-requires : goal.unreachable-requires
unreachable-requires g c =
    true≢false
    (sym (small_is_found c.args.metrics.now c.args.context.now.style c.font_size.result c.font_size.ensures.value c.requires.size)
    ∙ ap (λ (found : Option ℤ). is_some found) c.in_default.is)

pub invariant_of-result : goal.invariant_of-result
invariant_of-result g c =
    let m = c.args.metrics.now in
    let seen = seen_of (g.V.View.element c.args.view.now) in
    let context = c.args.context.now in
    let found = c.in-Some.ensures {u = tt} in
    let asked = subst (All (HasFont m)) (λ i. c.requires.replies.one_asked i ++ c.requires.replies.two_asked i) c.requires.replies.fonts in
    let fonts = kid_font m (g.V.View.element c.args.view.now) context (answers_in c.args.one.now) asked in
    let back : to_z w64 (of_z w64 c.in-Some.size) ≡ c.in-Some.size = back64 (size_in c.in-Some.size found.within.low found.within.high) (lit< tt) in
    let all = whole m seen context (answers_in c.args.one.now) (answers_in c.args.two.now) (to_z w64 (of_z w64 c.in-Some.size)) c.requires.fits c.requires.replies.one_fits c.requires.replies.two_fits
    (as_many c.args.one.now ∙ ap length c.requires.replies.one_asked) (as_many c.args.two.now ∙ ap length c.requires.replies.two_asked)
    (back ∙ size_found m context.style c.in-Some.size found.value) (subst IsSize (sym back) found.within)
    (omega (arith, c.kids-count.ensures.count, c.kids-count.ensures.few)) fonts in
    let kids = last_are m seen context (questions_in c.args.one.now) (questions_in c.args.two.now) (answers_in c.args.one.now) (answers_in c.args.two.now) _ c.kids-count.result c.requires.replies.one_asked c.requires.replies.two_asked
    c.kids-count.ensures.count (c.in_ok-kids.ensures {u = tt}) in
    subst (λ (kids : List Answer). IsWhole record { metrics = m; seen = seen; context = context; kids = kids } (to_z w64 (of_z w64 c.in-Some.size)))
    (sym kids) all
