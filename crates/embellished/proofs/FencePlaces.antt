-- Where the children in flow that aren't space-like begin and end, and the forms that this gives.
use Rattle.std.proofs.Common.{◌≡◌, ◌∙◌, refl, sym, ap, ℕ, zero, suc, ◌+◌, ◌<◌, ◌≤◌, Bool, true, false, cond, ◌&&◌, List, [], ◌∷◌, ◌++◌, length, take, drop, length-take, nat_le, nat_eq, not, Some, arith}
use Rattle.std.proofs.Math.Dec.{leb-zero, leb-suc-zero, leb-suc-suc, eqb-suc-zero, eqb-zero-suc, eqb-suc-suc}
use Rattle.std.proofs.lemmas.List.{take_more}
use Rattle.std.proofs.lemmas.Option.{get_or_from_slice_get}
use Rattle.std.specs.Prelude.{slice_get}
use Rattle.op_dictionary.specs.declared.operator.Form.TheVariants.{Prefix, Infix, Postfix}
use Rattle.embellished.specs.Fences.{fences_in, inked_end, leading, with_one}
use Rattle.embellished.specs.Forms.{are_space_like, fence_form}
use Rattle.embellished.specs.Seen.{Kid}
use Rattle.embellished.specs.declared.fences.Fences.{Fences}
use Rattle.std.proofs.lemmas.Bool.{eqb-true}

-- ---- what the places tell

before_by : (blank : Bool) (more : Bool) (i n : ℕ) → more ≡ nat_le i n → (blank && more) ≡ nat_le (suc i) (cond blank (suc n) 0)
before_by true more i n e = e ∙ sym (leb-suc-suc i n)
before_by false more i n e = sym (leb-suc-zero i)

pub all_before : (kids : List Kid) (i : ℕ) → i ≤ length kids → are_space_like (take i kids) ≡ nat_le i (leading kids)
all_before [] zero l = sym (leb-zero 0)
all_before [] (suc i) l = absurd (omega (arith, l))
all_before (kid ∷ kids) zero l = sym (leb-zero (leading (kid ∷ kids)))
all_before (kid ∷ kids) (suc i) l =
    before_by kid.facts.space_like (are_space_like (take i kids)) i (leading kids) (all_before kids i (omega (arith, l)))

after_by : (blank : Bool) (n j : ℕ) (more : Bool) → more ≡ nat_le n j → more ≡ nat_le (cond (blank && nat_eq n 0) 0 (suc n)) (suc j)
after_by true zero j more e = e ∙ leb-zero j ∙ sym (leb-zero (suc j))
after_by true (suc n) j more e = e ∙ sym (leb-suc-suc (suc n) j) ∙ ap (λ b. nat_le (cond b 0 (suc (suc n))) (suc j)) (sym (eqb-suc-zero n))
after_by false n j more e = e ∙ sym (leb-suc-suc n j)

here_by : (blank : Bool) (n : ℕ) (more : Bool) → more ≡ nat_le n 0 → (blank && more) ≡ nat_le (cond (blank && nat_eq n 0) 0 (suc n)) 0
here_by true zero more e = e
here_by true (suc n) more e = e ∙ leb-suc-zero n ∙ sym (leb-suc-zero (suc n)) ∙ ap (λ b. nat_le (cond b 0 (suc (suc n))) 0) (sym (eqb-suc-zero n))
here_by false n more e = sym (leb-suc-zero n)

pub all_after : (kids : List Kid) (j : ℕ) → are_space_like (drop j kids) ≡ nat_le (inked_end kids) j
all_after [] zero = sym (leb-zero 0)
all_after [] (suc j) = sym (leb-zero (suc j))
all_after (kid ∷ kids) zero = here_by kid.facts.space_like (inked_end kids) (are_space_like kids) (all_after kids 0)
all_after (kid ∷ kids) (suc j) = after_by kid.facts.space_like (inked_end kids) j (are_space_like (drop j kids)) (all_after kids j)

-- ---- one child more

first_by : (blank : Bool) (n m c : ℕ) → m ≡ cond (nat_eq n c) (suc n) n → cond blank (suc m) 0 ≡ cond (nat_eq (cond blank (suc n) 0) (suc c)) (suc (cond blank (suc n) 0)) (cond blank (suc n) 0)
first_by true n m c e = ap suc e ∙ cond_suc (nat_eq n c) n ∙ ap (λ b. cond b (suc (suc n)) (suc n)) (sym (eqb-suc-suc n c))
  where
    cond_suc : (b : Bool) (n : ℕ) → suc (cond b (suc n) n) ≡ cond b (suc (suc n)) (suc n)
    cond_suc true n = refl
    cond_suc false n = refl
first_by false n m c e = ap (λ b. cond b 1 0) (sym (eqb-zero-suc c))

-- a space-like one
pub leading_more : (kids : List Kid) (kid : Kid) → kid.facts.space_like ≡ true
    → leading (kids ++ kid ∷ []) ≡ cond (nat_eq (leading kids) (length kids)) (suc (leading kids)) (leading kids)
leading_more [] kid is = ap (λ b. cond b 1 0) is
leading_more (k ∷ kids) kid is = first_by k.facts.space_like (leading kids) (leading (kids ++ kid ∷ [])) (length kids) (leading_more kids kid is)

-- one that isn't
pub leading_less : (kids : List Kid) (kid : Kid) → kid.facts.space_like ≡ false → leading (kids ++ kid ∷ []) ≡ leading kids
leading_less [] kid is = ap (λ b. cond b 1 0) is
leading_less (k ∷ kids) kid is = ap (λ n. cond k.facts.space_like (suc n) 0) (leading_less kids kid is)

pub end_more : (kids : List Kid) (kid : Kid) → kid.facts.space_like ≡ true → inked_end (kids ++ kid ∷ []) ≡ inked_end kids
end_more [] kid is = ap (λ b. cond (b && true) 0 1) is
end_more (k ∷ kids) kid is = ap (λ n. cond (k.facts.space_like && nat_eq n 0) 0 (suc n)) (end_more kids kid is)

pub end_less : (kids : List Kid) (kid : Kid) → kid.facts.space_like ≡ false → inked_end (kids ++ kid ∷ []) ≡ length kids + 1
end_less [] kid is = ap (λ b. cond (b && true) 0 1) is
end_less (k ∷ kids) kid is =
    ap (λ n. cond (k.facts.space_like && nat_eq n 0) 0 (suc n)) (end_less kids kid is ∙ omega arith)
    ∙ ap (λ b. cond (k.facts.space_like && b) 0 (suc (suc (length kids)))) (eqb-suc-zero (length kids))
    ∙ never k.facts.space_like (suc (suc (length kids))) ∙ omega arith
  where
    never : (b : Bool) (n : ℕ) → cond (b && false) 0 n ≡ n
    never true n = refl
    never false n = refl

-- ---- the form that this gives

pub fence_is : (kids : List Kid) (index : ℕ) → index < length kids
    → fence_form kids index
    ≡ cond (nat_le index (leading kids) && not (nat_le (inked_end kids) (index + 1))) Prefix
    (cond (nat_le (inked_end kids) (index + 1) && not (nat_le index (leading kids))) Postfix Infix)
unfolding fence_form
fence_is kids index within =
    ap (λ b. cond (b && not (are_space_like (drop (index + 1) kids))) Prefix (cond (are_space_like (drop (index + 1) kids) && not b) Postfix Infix)) (all_before kids index (omega (arith, within)))
    ∙ ap (λ b. cond (nat_le index (leading kids) && not b) Prefix (cond (b && not (nat_le index (leading kids))) Postfix Infix)) (all_after kids (index + 1))

-- ---- one turn of the loop

by_blank : (blank : Bool) (kids : List Kid) (kid : Kid) → kid.facts.space_like ≡ blank
    → fences_in (kids ++ kid ∷ []) ≡ with_one (fences_in kids) (length kids) blank
by_blank true kids kid is =
    ap (λ n. record { first = n; end = inked_end (kids ++ kid ∷ []) }) (leading_more kids kid is ∙ here (nat_eq (leading kids) (length kids)) refl)
    ∙ ap (λ n. record { first = cond (nat_eq (leading kids) (length kids)) (length kids + 1) (leading kids); end = n }) (end_more kids kid is)
  where
    here : (b : Bool) → nat_eq (leading kids) (length kids) ≡ b → cond b (suc (leading kids)) (leading kids) ≡ cond b (length kids + 1) (leading kids)
    here true e = ap suc (eqb-true (leading kids) (length kids) e) ∙ omega arith
    here false e = refl
by_blank false kids kid is =
    ap (λ n. record { first = n; end = inked_end (kids ++ kid ∷ []) }) (leading_less kids kid is)
    ∙ ap (λ n. record { first = leading kids; end = n }) (end_less kids kid is)

pub one_turn : (kids : List Kid) (i : ℕ) (kid : Kid) (found : Fences) → slice_get kids i ≡ Some kid → i < length kids
    → found ≡ fences_in (take i kids) → with_one found i kid.facts.space_like ≡ fences_in (take (i + 1) kids)
one_turn kids i kid found at within is =
    let it = get_or_from_slice_get kids i kid kid at in
    let next : take (i + 1) kids ≡ take i kids ++ kid ∷ [] = take_more kids i kid within ∙ ap (λ k. take i kids ++ k ∷ []) it in
    let long : length (take i kids) ≡ i = omega (arith, within, length-take i kids) in
    ap (λ f. with_one f i kid.facts.space_like) is
    ∙ ap (λ n. with_one (fences_in (take i kids)) n kid.facts.space_like) (sym long)
    ∙ sym (by_blank kid.facts.space_like (take i kids) kid refl) ∙ ap fences_in (sym next)
