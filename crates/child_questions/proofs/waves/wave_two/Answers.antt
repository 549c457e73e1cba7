use Rattle.std.proofs.Common.{◌≡◌, ◌∙◌, ap, subst, sym, List, map-id}
use Rattle.std.specs.List.{All}
use Rattle.std.proofs.lemmas.Result.{IfOk-weaker}
use Rattle.embellished.specs.Seen.{seen_of}
use Rattle.layout_model.specs.Answers.{questions_in}
use Rattle.layout_model.specs.Fits.{AreAnswers, HasStyle}
use Rattle.layout_model.specs.Questions.{second}
use Rattle.layout_model.specs.declared.context.Question.{Question}
use Rattle.child_questions.proofs.waves.wave_two.Goals as goal

pub second_wave-requires-clause-answers : goal.second_wave-requires-clause-answers
second_wave-requires-clause-answers g c = subst AreAnswers (sym (map-id c.args.first.now)) c.requires.answers

pub returns-clause-styles : goal.returns-clause-styles
returns-clause-styles g c =
    IfOk-weaker c.questions_in.result _ (All HasStyle)
    (λ asks e. subst (All HasStyle) (sym (e ∙ ap questions_in c.as_slice.ensures)) (c.in_ok-asked.ensures {u = tt}).styles) c.questions_in.ensures

pub returns-clause-value : goal.returns-clause-value
returns-clause-value g c =
    let seen = seen_of (g.V.View.element c.args.view.now) in
    IfOk-weaker c.questions_in.result _ (λ (asks : List Question). asks ≡ second c.args.metrics.now seen c.args.context.now c.args.first.now)
    (λ asks e. e ∙ ap questions_in c.as_slice.ensures ∙ (c.in_ok-asked.ensures {u = tt}).value ∙ ap (second c.args.metrics.now seen c.args.context.now) (map-id c.args.first.now)) c.questions_in.ensures
