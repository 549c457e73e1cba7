-- The last answer to each child: one question more, and what holds of all of them.
use Rattle.std.proofs.Common.{◌≡◌, ◌∙◌, refl, sym, ap, subst, ℕ, ◌+◌, ◌<◌, arith, Bool, true, false, cond, nat_eq, List, [], ◌∷◌, ◌++◌, length, length-append, map, get_or, set, take, All, Option, Some, unwrap_or}
use Rattle.std.proofs.lemmas.Bool.{eqb-true, eqb-false}
use Rattle.std.proofs.lemmas.List.{append-nil, append_assoc, ext_get_or, get_or-set_other, get_or-set_same, length-set, length-take-le, take_more}
use Rattle.std.proofs.lemmas.List.Elements.{All-cons, All-get_or, All-head, All-nil, All-tail}
use Rattle.std.proofs.lemmas.Option.{get_or_from_slice_get}
use Rattle.fixed_units.specs.Sums.{list_to}
use Rattle.fixed_units.proofs.Sums.{length-list_to, slice_get-list_to}
use Rattle.layout_model.specs.Answers.{answers_in, answers_to, last_answer, last_some, no_answer, questions_in}
use Rattle.layout_model.specs.Questions.{IsBelow}
use Rattle.layout_model.specs.declared.context.Question.{Question}
use Rattle.layout_model.specs.declared.outcome.Answer.{Answer}
use Rattle.layout_model.specs.declared.reply.Reply.{Reply}
use Rattle.layout_model.proofs.Replies.{as_many, asked_at, asked_within, told_at}

-- ---- one question more

abbrev answer_of : Question × Answer → Answer
answer_of asked = asked.1

answers_to-more : (kid : ℕ) (asks : List Question) (answers : List Answer) (q : Question) (a : Answer) → length answers ≡ length asks
    → answers_to kid (asks ++ q ∷ []) (answers ++ a ∷ []) ≡ answers_to kid asks answers ++ cond (nat_eq q.kid kid) (a ∷ []) []
answers_to-more kid [] [] q a e = by (nat_eq q.kid kid)
  where
    by : (v : Bool) → map answer_of (cond v ((q, a) ∷ []) []) ≡ cond v (a ∷ []) []
    by true = refl
    by false = refl
answers_to-more kid (x ∷ asks) (y ∷ answers) q a e = by (nat_eq x.kid kid) _ _ (answers_to-more kid asks answers q a (omega (arith, e)))
  where
    by : (v : Bool) (rest old : List (Question × Answer)) → map answer_of rest ≡ map answer_of old ++ cond (nat_eq q.kid kid) (a ∷ []) []
        → map answer_of (cond v ((x, y) ∷ rest) rest) ≡ map answer_of (cond v ((x, y) ∷ old) old) ++ cond (nat_eq q.kid kid) (a ∷ []) []
    by true rest old h = ap (λ ys. y ∷ ys) h
    by false rest old h = h
answers_to-more kid [] (y ∷ answers) q a e = absurd (omega (arith, e))
answers_to-more kid (x ∷ asks) [] q a e = absurd (omega (arith, e))

last_some-more : (xs : List Answer) (a : Answer) → last_some (xs ++ a ∷ []) ≡ Some a
last_some-more [] a = refl
last_some-more (x ∷ []) a = refl
last_some-more (x ∷ y ∷ xs) a = last_some-more (y ∷ xs) a

pub last_answer-more : (kid : ℕ) (asks : List Question) (answers : List Answer) (q : Question) (a : Answer) → length answers ≡ length asks
    → last_answer (asks ++ q ∷ []) (answers ++ a ∷ []) kid ≡ cond (nat_eq q.kid kid) a (last_answer asks answers kid)
unfolding last_answer
last_answer-more kid asks answers q a e =
    ap (λ (xs : List Answer). unwrap_or (last_some xs) no_answer) (answers_to-more kid asks answers q a e) ∙ by (nat_eq q.kid kid)
  where
    by : (v : Bool) → unwrap_or (last_some (answers_to kid asks answers ++ cond v (a ∷ []) [])) no_answer
        ≡ cond v a (unwrap_or (last_some (answers_to kid asks answers)) no_answer)
    by true = ap (λ (s : Option Answer). unwrap_or s no_answer) (last_some-more (answers_to kid asks answers) a)
    by false = ap (λ (xs : List Answer). unwrap_or (last_some xs) no_answer) (append-nil (answers_to kid asks answers))

pub last_answer-none : (kid : ℕ) → last_answer [] [] kid ≡ no_answer
unfolding last_answer
last_answer-none kid = refl

-- one slot that is set to the answer of a further question
pub put_one : (n : ℕ) (before after : ℕ → Answer) (slots : List Answer) (k : ℕ) (a : Answer) → slots ≡ list_to n before
    → ((i : ℕ) → after i ≡ cond (nat_eq k i) a (before i)) → k < n → set slots k a ≡ list_to n after
put_one n before after slots k a e same l =
    ext_get_or no_answer (set slots k a) (list_to n after)
    (length-set slots k a ∙ ap length e ∙ length-list_to n before ∙ sym (length-list_to n after))
    (λ i h. at i (omega (arith, h, length-set slots k a, ap length e, length-list_to n before)))
  where
    at_list : (i : ℕ) (f : ℕ → Answer) → i < n → get_or (list_to n f) i no_answer ≡ f i
    at_list i f h = get_or_from_slice_get (list_to n f) i (f i) no_answer (slice_get-list_to n i f h)

    by : (i : ℕ) (v : Bool) → nat_eq k i ≡ v → i < n → get_or (set slots k a) i no_answer ≡ cond v a (before i)
    by i true t h =
        ap (λ (j : ℕ). get_or (set slots k a) j no_answer) (sym (eqb-true k i t))
        ∙ get_or-set_same slots k a no_answer (omega (arith, l, ap length e, length-list_to n before))
    by i false t h =
        get_or-set_other slots k i a no_answer (λ j. eqb-false k i t (sym j))
        ∙ ap (λ (xs : List Answer). get_or xs i no_answer) e ∙ at_list i before h

    at : (i : ℕ) → i < n → get_or (set slots k a) i no_answer ≡ get_or (list_to n after) i no_answer
    at i h = by i (nat_eq k i) refl h ∙ sym (same i) ∙ sym (at_list i after h)

-- and all slots, where the answers to the first questions stand and one more is put
pub placed_more : (n i : ℕ) (slots : List Answer) (asks : List Question) (answers : List Answer) (other : Question) (a : Answer) (asked : List Question)
    (given : List Answer) → length given ≡ length asked → length answers ≡ length asks → i < length asks → a ≡ get_or answers i a
    → (get_or asks i other).kid < n → slots ≡ list_to n (last_answer (asked ++ take i asks) (given ++ take i answers))
    → set slots (get_or asks i other).kid a ≡ list_to n (last_answer (asked ++ take (i + 1) asks) (given ++ take (i + 1) answers))
placed_more n i slots asks answers other a asked given e f l is below h =
    let q = get_or asks i other in
    let behind = asked ++ take i asks in
    let told = given ++ take i answers in
    let long : length told ≡ length behind =
    omega (arith, e, l, length-append given (take i answers), length-append asked (take i asks), length-take-le i asks (omega (arith, l)), length-take-le i answers (omega (arith, l, f))) in
    let asks_are : behind ++ q ∷ [] ≡ asked ++ take (i + 1) asks =
    append_assoc asked (take i asks) (q ∷ []) ∙ ap (λ (xs : List Question). asked ++ xs) (sym (take_more asks i other l)) in
    let answers_are : told ++ a ∷ [] ≡ given ++ take (i + 1) answers =
    append_assoc given (take i answers) (a ∷ [])
    ∙ ap (λ (x : Answer). given ++ (take i answers ++ x ∷ [])) is
    ∙ ap (λ (xs : List Answer). given ++ xs) (sym (take_more answers i a (omega (arith, l, f)))) in
    put_one n (last_answer behind told) (last_answer (behind ++ q ∷ []) (told ++ a ∷ [])) slots q.kid a h
    (λ kid. last_answer-more kid behind told q a long) below
    ∙ (λ j. list_to n (last_answer (asks_are j) (answers_are j)))

-- the question of a reply goes to one of so many children, where all do
pub goes_below : (n i : ℕ) (replies : List Reply) (reply : Reply) → i < length replies → reply ≡ get_or replies i reply → All (IsBelow n) (questions_in replies)
    → reply.question.kid < n
goes_below n i replies reply l is within =
    let there = All-get_or (IsBelow n) (questions_in replies) i reply.question (asked_within replies i l) within in
    subst (IsBelow n) (sym (asked_at replies i reply l is)) there

-- and of one reply more
pub placed_next : (n i : ℕ) (slots : List Answer) (replies : List Reply) (reply : Reply) (asked : List Question) (given : List Answer)
    → length given ≡ length asked → i < length replies → reply ≡ get_or replies i reply → All (IsBelow n) (questions_in replies)
    → slots ≡ list_to n (last_answer (asked ++ take i (questions_in replies)) (given ++ take i (answers_in replies)))
    → set slots reply.question.kid reply.answer
    ≡ list_to n (last_answer (asked ++ take (i + 1) (questions_in replies)) (given ++ take (i + 1) (answers_in replies)))
placed_next n i slots replies reply asked given e l is within h =
    let asks = questions_in replies in
    let near = asked_within replies i l in
    let is_asked : reply.question ≡ get_or asks i reply.question = asked_at replies i reply l is in
    let below : (get_or asks i reply.question).kid < n = All-get_or (IsBelow n) asks i reply.question near within in
    ap (λ (q : Question). set slots q.kid reply.answer) is_asked
    ∙ placed_more n i slots asks (answers_in replies) reply.question reply.answer asked given e (as_many replies) near (told_at replies i reply l is) below h

-- ---- what holds of all answers holds of the last ones

module _ (P : Answer → Type 0) (none : P no_answer) where
  all_to : (kid : ℕ) (asks : List Question) (answers : List Answer) → All P answers → All P (answers_to kid asks answers)
  all_to kid [] answers all = All-nil P
  all_to kid (x ∷ asks) [] all = All-nil P
  all_to kid (x ∷ asks) (y ∷ answers) all = by (nat_eq x.kid kid) _ (all_to kid asks answers (All-tail P y answers all))
    where
      by : (v : Bool) (rest : List (Question × Answer)) → All P (map answer_of rest) → All P (map answer_of (cond v ((x, y) ∷ rest) rest))
      by true rest h = All-cons P y (map answer_of rest) (All-head P y answers all) h
      by false rest h = h

  last_in : (xs : List Answer) → All P xs → P (unwrap_or (last_some xs) no_answer)
  last_in [] all = none
  last_in (x ∷ []) all = All-head P x [] all
  last_in (x ∷ y ∷ xs) all = last_in (y ∷ xs) (All-tail P x (y ∷ xs) all)

  pub last_answer-holds : (asks : List Question) (answers : List Answer) (kid : ℕ) → All P answers → P (last_answer asks answers kid)
  unfolding last_answer
  last_answer-holds asks answers kid all = last_in (answers_to kid asks answers) (all_to kid asks answers all)
