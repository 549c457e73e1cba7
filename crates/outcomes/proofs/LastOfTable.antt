-- Of a table the answers that count are those to the second wave: it asks each row there, in order.
use Rattle.std.proofs.Common.{◌≡◌, ◌∙◌, refl, sym, ap, ℕ, zero, suc, ◌+◌, ◌<◌, ◌≤◌, arith, Bool, true, false, cond, nat_eq, List, [], ◌∷◌, ◌++◌, length, length-append, get_or, take}
use Rattle.std.proofs.lemmas.Bool.{eqb-true, eqb-false}
use Rattle.std.proofs.lemmas.List.{append_assoc, ext_get_or, length-take-le, take_all, take_more}
use Rattle.std.proofs.lemmas.Option.{get_or_from_slice_get}
use Rattle.fixed_units.specs.Sums.{list_to}
use Rattle.fixed_units.proofs.Sums.{length-list_to, slice_get-list_to}
use Rattle.font_metrics.specs.Metrics.{MetricsValue}
use Rattle.math_tree.specs.declared.kind.Kind.{Kind}
use Rattle.math_tree.specs.declared.kind.Kind.TheVariants.{Mtable}
use Rattle.embellished.specs.Seen.{Seen}
use Rattle.layout_model.specs.Answers.{last_answer, no_answer}
use Rattle.layout_model.specs.Layout.{last_answers}
use Rattle.layout_model.specs.Questions.{asked_as, asking, asking_of, first, has_moved_limits, row_asked, rows_asked, second, second_as}
use Rattle.layout_model.specs.declared.context.Context.{Context}
use Rattle.layout_model.specs.declared.context.Question.{Question}
use Rattle.layout_model.specs.declared.outcome.Answer.{Answer}
use Rattle.outcomes.proofs.Lasts.{last_answer-more}

-- questions to the children from the first on, after others
module _ (asks : List Question) (one two : List Answer) (row : ℕ → Question) (own : (i : ℕ) → (row i).kid ≡ i) (each : length one ≡ length asks) where
  so_far : (i : ℕ) → i ≤ length two → (k : ℕ) → k < i → last_answer (asks ++ list_to i row) (one ++ take i two) k ≡ get_or two k no_answer
  unfolding list_to
  so_far zero l k h = absurd (omega (arith, h))
  so_far (suc i) l k h =
      let behind = asks ++ list_to i row in
      let told = one ++ take i two in
      let long : length told ≡ length behind =
      omega (arith, each, l, length-append one (take i two), length-append asks (list_to i row), length-take-le i two (omega (arith, l)), length-list_to i row) in
      let next : suc i ≡ i + 1 = omega arith in
      let asks_are : asks ++ list_to (suc i) row ≡ behind ++ row i ∷ [] = sym (append_assoc asks (list_to i row) (row i ∷ [])) in
      let told_are : one ++ take (suc i) two ≡ told ++ get_or two i no_answer ∷ [] =
      ap (λ (xs : List Answer). one ++ xs) (ap (λ (n : ℕ). take n two) next ∙ take_more two i no_answer (omega (arith, l)))
      ∙ sym (append_assoc one (take i two) (get_or two i no_answer ∷ [])) in
      (λ j. last_answer (asks_are j) (told_are j) k)
      ∙ last_answer-more k behind told (row i) (get_or two i no_answer) long
      ∙ ap (λ (n : ℕ). cond (nat_eq n k) (get_or two i no_answer) (last_answer behind told k)) (own i)
      ∙ by (nat_eq i k) refl (λ t. so_far i (omega (arith, l)) k (let other = eqb-false i k t in omega (arith, h, other)))
    where
      by : (v : Bool) → nat_eq i k ≡ v
          → (nat_eq i k ≡ false → last_answer (asks ++ list_to i row) (one ++ take i two) k ≡ get_or two k no_answer)
          → cond v (get_or two i no_answer) (last_answer (asks ++ list_to i row) (one ++ take i two) k) ≡ get_or two k no_answer
      by true t earlier = ap (λ (n : ℕ). get_or two n no_answer) (eqb-true i k t)
      by false t earlier = earlier t

  last_are_two : (n : ℕ) → length two ≡ n → list_to n (last_answer (asks ++ list_to n row) (one ++ two)) ≡ two
  last_are_two n count =
      let last = last_answer (asks ++ list_to n row) (one ++ two) in
      ext_get_or no_answer (list_to n last) two (length-list_to n last ∙ sym count)
      (λ i l.
      let within : i < n = omega (arith, l, length-list_to n last) in
      get_or_from_slice_get (list_to n last) i (last i) no_answer (slice_get-list_to n i last within)
      ∙ ap (λ (xs : List Answer). last_answer (asks ++ list_to n row) (one ++ xs) i) (sym (take_all n two (omega (arith, count))))
      ∙ so_far n (omega (arith, count)) i within)

module _ (m : MetricsValue) (seen : Seen) (context : Context) (one two : List Answer) (table : seen.facts.laid ≡ Mtable) where
  asks_rows : second m seen context one ≡ rows_asked m seen context one
  unfolding second asking asking_of
  asks_rows = ap (λ (kind : Kind). second_as (asked_as (asking_of kind) (has_moved_limits m seen context)) m seen context one) table

  pub table_answers : length one ≡ length (first m seen context) → length two ≡ length (second m seen context one)
      → last_answers m seen context one two ≡ two
  unfolding last_answers
  table_answers ones twos =
      let n = length seen.kids in
      let row = row_asked m seen context one in
      let count : length two ≡ n = twos ∙ ap (λ (asks : List Question). length asks) asks_rows ∙ length-list_to n row in
      ap (λ (asks : List Question). list_to n (last_answer (first m seen context ++ asks) (one ++ two))) asks_rows
      ∙ last_are_two (first m seen context) one two row (λ i. refl) ones n count
