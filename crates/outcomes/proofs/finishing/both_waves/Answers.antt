use Rattle.std.proofs.Common.{◌≡◌, ◌∙◌, ap, sym, subst, All, ◌++◌}
use Rattle.embellished.specs.Seen.{seen_of}
use Rattle.layout_model.specs.Answers.{answers_in, questions_in}
use Rattle.layout_model.specs.Fits.{AreAnswers, HasFont}
use Rattle.layout_model.specs.Questions.{first, second}
use Rattle.outcomes.proofs.finishing.both_waves.Goals as goal

pub returns-clause-replies : goal.returns-clause-replies
returns-clause-replies g c =
    let m = c.args.metrics.now in
    let seen = seen_of (g.V.View.element c.args.view.now) in
    let context = c.args.context.now in
    let ones = c.in_ok-one.ensures {u = tt} in
    let twos = c.in_ok-two.ensures {u = tt} in
    let one : questions_in c.in_ok-one.one ≡ first m seen context =
    ones.questions ∙ c.as_slice.ensures ∙ (c.in_ok-asked.ensures {u = tt}).ok in
    let told : answers_in c.in_ok-one.one ≡ c.args.first.now = ones.answers ∙ c.as_slice-2.ensures in
    let two : questions_in c.in_ok-two.two ≡ second m seen context c.args.first.now =
    twos.questions ∙ c.as_slice-3.ensures ∙ (c.in_ok-asked-2.ensures {u = tt}).value in
    record {
      one_asked = one;
      two_asked = two ∙ ap (second m seen context) (sym told);
      one_fits = subst AreAnswers (sym told) c.requires.answers.one_fits;
      two_fits = subst AreAnswers (sym (twos.answers ∙ c.as_slice-4.ensures)) c.requires.answers.two_fits;
      fonts =
          let same : questions_in c.in_ok-one.one ++ questions_in c.in_ok-two.two ≡ first m seen context ++ second m seen context c.args.first.now =
          λ i. one i ++ two i in
          subst (All (HasFont m)) (sym same) c.requires.answers.fonts;
    }
