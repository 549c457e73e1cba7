-- Lists of replies, by what was asked and by what was answered.
use Rattle.std.proofs.Common.{◌≡◌, ◌∙◌, refl, sym, ap, ℕ, zero, suc, ◌+◌, ◌<◌, ◌≤◌, arith, List, [], ◌∷◌, ◌++◌, length, get_or, set, take, Some, slice_get}
use Rattle.std.specs.Option.{option_map}
use Rattle.std.proofs.lemmas.List.{get_or-map, length-map, map-append, map-set, take_all, take_more_set}
use Rattle.std.proofs.lemmas.Option.{get_or_from_slice_get, none-some, same_Some, slice_get-map, slice_get_within}
use Rattle.layout_model.specs.Answers.{answers_in, questions_in}
use Rattle.layout_model.specs.declared.context.Question.{Question}
use Rattle.layout_model.specs.declared.outcome.Answer.{Answer}
use Rattle.layout_model.specs.declared.reply.Reply.{Reply}

abbrev pub question_of : Reply → Question
question_of reply = reply.question

abbrev pub told_of : Reply → Answer
told_of reply = reply.answer

-- as many answers as questions
pub as_many : (replies : List Reply) → length (answers_in replies) ≡ length (questions_in replies)
as_many replies = length-map replies told_of ∙ sym (length-map replies question_of)

-- where nothing is asked there is no reply
pub none_in : (replies : List Reply) → questions_in replies ≡ [] → replies ≡ []
none_in [] e = refl
none_in (reply ∷ replies) e = absurd (omega (arith, ap length e))

-- which reply asks what is asked at a place
pub question_was : (replies : List Reply) (i : ℕ) (question : Question) → slice_get (questions_in replies) i ≡ Some question
    → (reply : Reply) × (slice_get replies i ≡ Some reply) × (question ≡ reply.question)
question_was [] i question at = absurd (none-some question at)
question_was (reply ∷ replies) zero question at = (reply, refl, sym (same_Some reply.question question at))
question_was (reply ∷ replies) (suc i) question at = question_was replies i question at

-- ---- one more

pub questions_more : (before after : List Reply) (reply : Reply) (question : Question) → after ≡ before ++ reply ∷ [] → reply.question ≡ question
    → questions_in after ≡ questions_in before ++ question ∷ []
questions_more before after reply question pushed is =
    ap questions_in pushed ∙ map-append question_of before (reply ∷ []) ∙ ap (λ (q : Question). questions_in before ++ q ∷ []) is

pub answers_more : (before after : List Reply) (reply : Reply) (answer : Answer) → after ≡ before ++ reply ∷ [] → reply.answer ≡ answer
    → answers_in after ≡ answers_in before ++ answer ∷ []
answers_more before after reply answer pushed is =
    ap answers_in pushed ∙ map-append told_of before (reply ∷ []) ∙ ap (λ (a : Answer). answers_in before ++ a ∷ []) is

-- ---- the one at a place

module _ (replies : List Reply) (i : ℕ) where
  pub asked_within : i < length replies → i < length (questions_in replies)
  asked_within l = omega (arith, l, length-map replies question_of)

  pub asked_at : (reply : Reply) → i < length replies → reply ≡ get_or replies i reply → reply.question ≡ get_or (questions_in replies) i reply.question
  asked_at reply l is = ap question_of is ∙ sym (get_or-map question_of replies i reply reply.question l)

  pub told_at : (reply : Reply) → i < length replies → reply ≡ get_or replies i reply → reply.answer ≡ get_or (answers_in replies) i reply.answer
  told_at reply l is = ap told_of is ∙ sym (get_or-map told_of replies i reply reply.answer l)

  pub question_there : (reply : Reply) → slice_get replies i ≡ Some reply → slice_get (questions_in replies) i ≡ Some reply.question
  question_there reply at = slice_get-map question_of replies i ∙ ap (option_map question_of) at

  pub answer_there : (reply : Reply) → slice_get replies i ≡ Some reply → slice_get (answers_in replies) i ≡ Some reply.answer
  answer_there reply at = slice_get-map told_of replies i ∙ ap (option_map told_of) at

  -- one reply in place of another
  pub questions_set : (reply : Reply) → questions_in (set replies i reply) ≡ set (questions_in replies) i reply.question
  questions_set reply = map-set question_of replies i reply

  pub answers_set : (reply : Reply) → answers_in (set replies i reply) ≡ set (answers_in replies) i reply.answer
  answers_set reply = map-set told_of replies i reply

-- ---- one answered after another

-- the question at a place of replies that ask this
pub asked_there : (asks : List Question) (replies : List Reply) (i : ℕ) (reply : Reply) → questions_in replies ≡ asks → slice_get replies i ≡ Some reply
    → (i < length asks) × (reply.question ≡ get_or asks i reply.question)
asked_there asks replies i reply same there =
    let at : slice_get asks i ≡ Some reply.question = ap (λ (l : List Question). slice_get l i) (sym same) ∙ question_there replies i reply there in
    (slice_get_within asks i reply.question at, sym (get_or_from_slice_get asks i reply.question reply.question at))

-- and once it is answered
pub record AnsweredThere (asks : List Question) (replies after : List Reply) (i : ℕ) (answer : Answer) : Type 0 where
  pub same : questions_in after ≡ asks
  pub told : take (i + 1) (answers_in after) ≡ take i (answers_in replies) ++ answer ∷ []

same_there : {A : Type 0} (xs : List A) (i : ℕ) (x : A) → slice_get xs i ≡ Some x → set xs i x ≡ xs
same_there [] i x at = refl
same_there (y ∷ xs) zero x at = ap (λ (z : _). z ∷ xs) (sym (same_Some y x at))
same_there (y ∷ xs) (suc i) x at = ap (λ (zs : List _). y ∷ zs) (same_there xs i x at)

pub answered_there : (asks : List Question) (replies : List Reply) (i : ℕ) (reply : Reply) (answer : Answer) → questions_in replies ≡ asks → slice_get replies i ≡ Some reply
    → AnsweredThere asks replies (set replies i record { question = reply.question; answer = answer }) i answer
answered_there asks replies i reply answer same there =
    let new : Reply = record { question = reply.question; answer = answer } in
    let near = slice_get_within replies i reply there in
    record {
      same = questions_set replies i new ∙ same_there (questions_in replies) i reply.question (question_there replies i reply there) ∙ same;
      told = ap (take (i + 1)) (answers_set replies i new) ∙ take_more_set (answers_in replies) i answer (omega (arith, near, length-map replies told_of));
    }

-- where the last is answered, all are
pub record ArePast (before replies : List Reply) (i : ℕ) : Type 0 where
  pub asked : take i (questions_in before) ≡ questions_in before
  pub told : take i (answers_in replies) ≡ answers_in replies

pub past_all : (before replies : List Reply) (i : ℕ) → questions_in replies ≡ questions_in before → length before ≤ i → ArePast before replies i
past_all before replies i same past = record {
  asked = take_all i (questions_in before) (omega (arith, past, length-map before question_of));
  told = take_all i (answers_in replies) (omega (arith, past, ap length same, as_many replies, length-map before question_of));
}
