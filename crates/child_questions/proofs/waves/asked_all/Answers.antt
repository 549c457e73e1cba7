use Rattle.std.proofs.Common.{◌≡◌, ◌∙◌, sym, ap, subst, List, [], ◌∷◌, ◌++◌, length, map, take, arith}
use Rattle.std.specs.List.{All}
use Rattle.std.proofs.lemmas.List.{map_more}
use Rattle.std.proofs.lemmas.List.Elements.{All-append, All-cons, All-nil}
use Rattle.fixed_units.specs.declared.pull.Pull.TheVariants.{Free}
use Rattle.embellished.specs.Seen.{seen_of}
use Rattle.layout_model.specs.Answers.{questions_in}
use Rattle.layout_model.specs.Fits.{HasStyle}
use Rattle.layout_model.specs.Questions.{asked}
use Rattle.layout_model.specs.declared.context.Question.{Question}
use Rattle.layout_model.proofs.Replies.{questions_more}
use Rattle.child_questions.proofs.waves.asked_all.Goals as goal

pub loop-ask-init : goal.loop-ask-init
loop-ask-init g c =
    let made = c.in_ok-all.ensures {u = tt} in
    record {
      value = ap questions_in made.items;
      styles = subst (λ list. All HasStyle (questions_in list)) (sym made.items) (All-nil HasStyle);
      len = made.len;
      room = made.exact ∙ c.len.ensures ∙ ap length (sym c.as_slice-ask-items.ensures);
    }

pub push_reserved-requires : goal.push_reserved-requires
push_reserved-requires g c = omega (arith, c.loop-ask-test.true, c.loop-ask.invariant.len, c.loop-ask.invariant.room)

pub loop-ask-preserved : goal.loop-ask-preserved
loop-ask-preserved g c =
    let one = asked c.args.metrics.now (seen_of (g.V.View.element c.args.view.now)) c.args.context.now in
    let items = c.as_slice-ask-items.result.now in
    let i = c.loop-ask.ask-index in
    let made = c.asked-question.ensures in
    let question : Question = c.asked-question.result in
    let push = c.push_reserved.ensures in
    let before = c.loop-ask.invariant in
    let pushed : questions_in c.push_reserved.new.self.items ≡ questions_in c.loop-ask.all.items ++ question ∷ [] =
    questions_more c.loop-ask.all.items c.push_reserved.new.self.items c.to_come.result question push.items c.to_come.ensures.question in
    record {
      value = pushed ∙ ap (λ (l : List Question). l ++ question ∷ []) before.value
          ∙ ap (λ (q : Question). map one (take i items) ++ q ∷ []) made.value
          ∙ sym (map_more one items i record { kid = 0; pull = Free } c.loop-ask-test.true);
      styles = subst (All HasStyle) (sym pushed)
          (All-append HasStyle (questions_in c.loop-ask.all.items) (question ∷ []) before.styles (All-cons HasStyle question [] made.style (All-nil HasStyle)));
      len = omega (arith, push.len, before.len);
      room = push.capacity ∙ before.room;
    }
