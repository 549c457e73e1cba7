-- Children that are kept at their places one after another are, in the end, as they were asked last.
use Rattle.std.proofs.Common.{◌≡◌, ◌∙◌, refl, sym, ap, ℕ, zero, suc, add-one, ◌+◌, ◌<◌, arith, Bool, true, false, cond, nat_eq, List, [], ◌∷◌, ◌++◌, length, map, filter, replicate, All, Option, Some, None, slice_get, slice_set}
use Rattle.std.proofs.lemmas.Bool.Decides.{nat_tests}
use Rattle.std.proofs.lemmas.Grind.{replicate_next}
use Rattle.std.proofs.lemmas.List.{set-append_left}
use Rattle.std.proofs.lemmas.List.Elements.{All-head, All-tail}
use Rattle.std.proofs.Math.Seq.{set-append_seam}
use Rattle.std.specs.Option.{option_and_then, option_map}
use Rattle.std.specs.Prelude.{unwrap_or}
use Rattle.fixed_units.specs.Sums.{list_to}
use Rattle.fixed_units.proofs.Sums.{length-list_to}
use Rattle.font_metrics.specs.Metrics.{MetricsValue}
use Rattle.math_tree.specs.declared.node.Node.{Node}
use Rattle.embellished.specs.Seen.{flow_nodes}
use Rattle.layout_model.specs.Answers.{last_some}
use Rattle.layout_model.specs.Laws.{laid_below}
use Rattle.layout_model.specs.Layout.{laid, last_context}
use Rattle.layout_model.specs.Questions.{IsBelow}
use Rattle.layout_model.specs.declared.context.Context.{Context}
use Rattle.layout_model.specs.declared.context.Question.{Question}
use Rattle.layout_model.specs.declared.laid.Laid.{Laid}
use Rattle.layout_core.specs.Slots.{laid_for, with_laid}
use Rattle.layout_core.proofs.Placed.{laid_out}

-- ---- lists over places

same_place : (k i : ℕ) → nat_eq k i ≡ true → k ≡ i
same_place k i e = grind (arith, nat_tests)

other_place : (k i : ℕ) → i < k → nat_eq k i ≡ false
other_place k i l = grind (arith, nat_tests)

own_place : (k : ℕ) → nat_eq k k ≡ true
own_place k = grind (arith, nat_tests)

-- lists that agree below their ends
listed_alike : {A : Type 0} (n : ℕ) (f g : ℕ → A) → ((i : ℕ) → i < n → f i ≡ g i) → list_to n f ≡ list_to n g
unfolding list_to
listed_alike zero f g same = refl
listed_alike (suc n) f g same =
    ap (λ (xs : List _). xs ++ f n ∷ []) (listed_alike n f g (λ i l. same i (omega (arith, l)))) ∙ ap (λ x. list_to n g ++ x ∷ []) (same n (omega arith))

module _ {A : Type 0} (f : ℕ → A) (x : A) where
  abbrev placed : ℕ → ℕ → A
  placed k i = cond (nat_eq k i) x (f i)

  at_end : (n : ℕ) → slice_set (list_to (suc n) f) n x ≡ list_to (suc n) (placed n)
  unfolding list_to
  at_end n =
      ap (λ (k : ℕ). slice_set (list_to n f ++ f n ∷ []) k x) (sym (length-list_to n f))
      ∙ set-append_seam (list_to n f) (f n) [] x
      ∙ ap (λ (xs : List A). xs ++ x ∷ []) (listed_alike n f (placed n) (λ i l. sym (ap (λ (b : Bool). cond b x (f i)) (other_place n i l))))
      ∙ ap (λ (y : A). list_to n (placed n) ++ y ∷ []) (sym (ap (λ (b : Bool). cond b x (f n)) (own_place n)))

  -- one place of a list set
  set_at : (n k : ℕ) → k < n → slice_set (list_to n f) k x ≡ list_to n (placed k)
  unfolding list_to
  set_at zero k l = absurd (omega (arith, l))
  set_at (suc n) k l = by (nat_eq k n) refl (set_at n k)
    where
      by : (b : Bool) → nat_eq k n ≡ b → (k < n → slice_set (list_to n f) k x ≡ list_to n (placed k)) → slice_set (list_to (suc n) f) k x ≡ list_to (suc n) (placed k)
      by true e inside = ap (λ (j : ℕ). slice_set (list_to (suc n) f) j x) (same_place k n e) ∙ at_end n ∙ ap (λ (j : ℕ). list_to (suc n) (placed j)) (sym (same_place k n e))
      by false e inside =
          let before : k < n = grind (arith, nat_tests) in
          set-append_left (list_to n f) (f n ∷ []) k x (omega (arith, before, length-list_to n f))
          ∙ ap (λ (xs : List A). xs ++ f n ∷ []) (inside before)
          ∙ ap (λ (y : A). list_to n (placed k) ++ y ∷ []) (sym (ap (λ (b : Bool). cond b x (f n)) e))

-- below the end of a list something is found
found_in : {A : Type 0} (xs : List A) (i : ℕ) → i < length xs → (x : A) × (slice_get xs i ≡ Some x)
found_in [] i l = absurd (omega (arith, l))
found_in (x ∷ xs) zero l = (x, refl)
found_in (x ∷ xs) (suc i) l = found_in xs i (omega (arith, l))

-- ---- the last of a list with one ahead of it
last_behind : {A : Type 0} (x : A) (xs : List A) → last_some (x ∷ xs) ≡ Some (unwrap_or (last_some xs) x)
last_behind x [] = refl
last_behind x (y ∷ xs) =
    last_behind y xs ∙ ap (λ (o : Option _). Some (unwrap_or o x)) (sym (last_behind y xs))

module _ (m : MetricsValue) (node : Node) where
  -- what stands at a place at last
  abbrev kept_at : List Question → ℕ → Option Laid → Option Laid
  kept_at [] i before = before
  kept_at (question ∷ asks) i before = kept_at asks i (cond (nat_eq question.kid i) (Some (laid_for m node question)) before)

  kept_are : (n : ℕ) (asks : List Question) (f : ℕ → Option Laid) → All (IsBelow n) asks
      → with_laid m node asks (list_to n f) ≡ list_to n (λ i. kept_at asks i (f i))
  unfolding with_laid
  kept_are n [] f all = refl
  kept_are n (question ∷ asks) f all =
      ap (λ (slots : List (Option Laid)). with_laid m node asks slots)
      (set_at f (Some (laid_for m node question)) n question.kid (All-head (IsBelow n) question asks all))
      ∙ kept_are n asks (λ i. cond (nat_eq question.kid i) (Some (laid_for m node question)) (f i)) (All-tail (IsBelow n) question asks all)

  -- the last question's layout, or what stood there
  abbrev or_before : (ℕ → Node → Option Context → Option Laid → Option Laid)
  or_before i kid None before = before
  or_before i kid (Some context) before = Some (laid m kid context)

  kept_last : (asks : List Question) (i : ℕ) (kid : Node) (before : Option Laid) → slice_get (flow_nodes node) i ≡ Some kid
      → kept_at asks i before ≡ or_before i kid (last_context asks i) before
  kept_last [] i kid before at = refl
  kept_last (question ∷ asks) i kid before at = by (nat_eq question.kid i) refl (λ was. kept_last asks i kid was at)
    where
      over : (found : Option Context) → or_before i kid found (Some (laid m kid question.context)) ≡ or_before i kid (Some (unwrap_or found question.context)) before
      over None = refl
      over (Some context) = refl

      by : (b : Bool) → nat_eq question.kid i ≡ b
          → ((was : Option Laid) → kept_at asks i was ≡ or_before i kid (last_context asks i) was)
          → kept_at asks i (cond b (Some (laid_for m node question)) before)
          ≡ or_before i kid (last_some (map (λ q. q.context) (cond b (question ∷ filter (λ q. nat_eq q.kid i) asks) (filter (λ q. nat_eq q.kid i) asks)))) before
      by false e last = last before
      by true e last =
          let here : slice_get (flow_nodes node) question.kid ≡ Some kid = ap (slice_get (flow_nodes node)) (same_place question.kid i e) ∙ at in
          ap (λ (l : Laid). kept_at asks i (Some l)) (laid_out m node question kid here)
          ∙ last (Some (laid m kid question.context))
          ∙ over (last_context asks i)
          ∙ ap (λ (o : Option Context). or_before i kid o before) (sym (last_behind question.context (map (λ q. q.context) (filter (λ q. nat_eq q.kid i) asks))))

  below_is : (asks : List Question) (i : ℕ) (kid : Node) → slice_get (flow_nodes node) i ≡ Some kid
      → or_before i kid (last_context asks i) None ≡ laid_below m node asks i
  below_is asks i kid at = by (last_context asks i) ∙ ap (λ (found : Option Node). option_and_then (λ k. option_map (laid m k) (last_context asks i)) found) (sym at)
    where
      by : (found : Option Context) → or_before i kid found None ≡ option_map (laid m kid) found
      by None = refl
      by (Some context) = refl

  -- all children, where none was kept before
  pub kept_as_asked_last : (asks : List Question) (n : ℕ) → n ≡ length (flow_nodes node) → All (IsBelow n) asks
      → with_laid m node asks (list_to n (λ i. None)) ≡ list_to n (laid_below m node asks)
  kept_as_asked_last asks n e all =
      kept_are n asks (λ i. None) all
      ∙ listed_alike n (λ i. kept_at asks i None) (laid_below m node asks) (λ i l.
      let found = found_in (flow_nodes node) i (omega (arith, l, e)) in kept_last asks i found.0 None found.1 ∙ below_is asks i found.0 found.1)

abbrev pub nothing : Option Laid
nothing = None

pub none_kept : (n : ℕ) → replicate n nothing ≡ list_to n (λ i. None)
unfolding list_to
none_kept zero = refl
none_kept (suc n) =
    let next : replicate (suc n) nothing ≡ replicate (n + 1) nothing = rw add-one refl in
    next ∙ replicate_next n nothing ∙ ap (λ (xs : List (Option Laid)). xs ++ nothing ∷ []) (none_kept n)
