use Rattle.std.proofs.Common.{◌≡◌, ◌∙◌, refl, sym, ap, ℕ, ◌+◌, ◌<◌, arith, List, [], ◌∷◌, ◌++◌, length, get_or, take}
use Rattle.std.proofs.lemmas.List.{take_all, take_more}
use Rattle.layout_model.specs.declared.reply.Reply.{Reply}
use Rattle.layout_model.proofs.Replies.{answers_more, questions_more}
use Rattle.outcomes.proofs.finishing.replies.Goals as goal

taken_next : {X : Type 0} (xs : List X) (i : ℕ) (item x : X) (before after : List X) → i < length xs → item ≡ get_or xs i item → x ≡ item → before ≡ take i xs
    → after ≡ before ++ x ∷ [] → after ≡ take (i + 1) xs
taken_next {X} xs i item x before after within is same so_far pushed =
    pushed ∙ ap (λ (l : List X). l ++ x ∷ []) so_far ∙ ap (λ (y : X). take i xs ++ y ∷ []) (same ∙ is) ∙ sym (take_more xs i item within)

pub loop-place-preserved : goal.loop-place-preserved
loop-place-preserved c =
    let i = c.loop-place.place in
    let within = c.loop-place-test.true in
    let reply : Reply = record { question = c.in_ok-question.question; answer = c.in_ok-answer.answer } in
    let pushed = (c.in_ok-push.ensures {u = tt}).ok in
    record {
      questions = taken_next c.args.asks.now i c.index-asks-place.result _ _ _ within c.index-asks-place.is (c.in_ok-question.ensures {u = tt}) c.loop-place.invariant.questions
          (questions_more c.loop-place.replies c.push.new.self reply c.in_ok-question.question pushed refl);
      answers = taken_next c.args.answers.now i c.index-answers-place.result _ _ _ (omega (arith, within, c.requires)) c.index-answers-place.is (c.in_ok-answer.ensures {u = tt})
          c.loop-place.invariant.answers (answers_more c.loop-place.replies c.push.new.self reply c.in_ok-answer.answer pushed refl);
    }

pub returns-clause-questions : goal.returns-clause-questions
returns-clause-questions c =
    c.loop-place.invariant.questions ∙ take_all c.loop-place.place c.args.asks.now (omega (arith, c.loop-place-test.false))

pub returns-clause-answers : goal.returns-clause-answers
returns-clause-answers c =
    c.loop-place.invariant.answers ∙ take_all c.loop-place.place c.args.answers.now (omega (arith, c.loop-place-test.false, c.requires))
