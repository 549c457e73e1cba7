-- The last question to a child: of questions of which there is one more, and which one it is.
use Rattle.std.proofs.Common.{◌≡◌, ◌∙◌, refl, sym, ap, subst, ℕ, zero, suc, ◌+◌, ◌<◌, arith, Bool, true, false, cond, nat_eq, List, [], ◌∷◌, ◌++◌, append_assoc, append-nil, filter, get_or, length, length-set, map, set, take, Option, Some, None, slice_get}
use Rattle.std.proofs.lemmas.Bool.Decides.{nat_tests}
use Rattle.std.proofs.lemmas.List.{map-append, map-set, take_more}
use Rattle.std.proofs.lemmas.List.Elements.{filter-append}
use Rattle.std.proofs.lemmas.Option.{none-some, same_Some}
use Rattle.std.specs.Borrow.{Bor}
use Rattle.std.specs.List.{AllByRecursion}
use Rattle.std.specs.Prelude.{unwrap_or}
use Rattle.layout_model.specs.Answers.{last_some}
use Rattle.layout_model.specs.Layout.{last_context}
use Rattle.layout_model.specs.declared.context.Context.{Context}
use Rattle.layout_model.specs.declared.context.Question.{Question}
use Rattle.kept_laid.specs.Last.{AreLast, seen_contexts}

-- ---- the last of a list

last_ends : {A : Type 0} (xs : List A) (x : A) → last_some (xs ++ x ∷ []) ≡ Some x
last_ends [] x = refl
last_ends (y ∷ []) x = refl
last_ends (y ∷ z ∷ xs) x = last_ends (z ∷ xs) x

last_behind : {A : Type 0} (x : A) (xs : List A) → last_some (x ∷ xs) ≡ Some (unwrap_or (last_some xs) x)
last_behind x [] = refl
last_behind x (y ∷ xs) =
    last_behind y xs ∙ ap (λ (o : Option _). Some (unwrap_or o x)) (sym (last_behind y xs))

-- ---- one question more

same_place : (k i : ℕ) → nat_eq k i ≡ true → k ≡ i
same_place k i e = grind (arith, nat_tests)

other_place : (k i : ℕ) → nat_eq k i ≡ false → k ≡ i → ⊥
other_place k i e same = absurd (grind (arith, nat_tests))

pub alike : (k i : ℕ) → k ≡ i → nat_eq k i ≡ true
alike k i same = grind (arith, nat_tests)

pub unlike : (k i : ℕ) → (k ≡ i → ⊥) → nat_eq k i ≡ false
unlike k i other = grind (arith, nat_tests)

abbrev goes_to : ℕ → Question → Bool
goes_to kid question = nat_eq question.kid kid

abbrev context_in : Question → Context
context_in question = question.context

last_more : (asks : List Question) (q : Question) (kid : ℕ) → last_context (asks ++ q ∷ []) kid ≡ cond (nat_eq q.kid kid) (Some q.context) (last_context asks kid)
last_more asks q kid =
    ap (λ (list : List Question). last_some (map context_in list)) (filter-append (goes_to kid) asks (q ∷ []))
    ∙ by (nat_eq q.kid kid)
  where
    by : (b : Bool) → last_some (map context_in (filter (goes_to kid) asks ++ cond b (q ∷ []) [])) ≡ cond b (Some q.context) (last_context asks kid)
    by true =
        ap (λ (list : List Context). last_some list) (map-append context_in (filter (goes_to kid) asks) (q ∷ []))
        ∙ last_ends (map context_in (filter (goes_to kid) asks)) q.context
    by false = ap (λ (list : List Question). last_some (map context_in list)) (append-nil (filter (goes_to kid) asks))

-- the same of the first questions of a list, behind earlier ones
module _ (earlier asks : List Question) (i : ℕ) (q : Question) (kid : ℕ) (last : Option Context) (within : i < length asks) (is : q ≡ get_or asks i q) (h : last ≡ last_context (earlier ++ take i asks) kid) where
  next_asks : (earlier ++ take i asks) ++ q ∷ [] ≡ earlier ++ take (i + 1) asks
  next_asks =
      append_assoc earlier (take i asks) (q ∷ [])
      ∙ ap (λ (x : Question). earlier ++ (take i asks ++ x ∷ [])) is
      ∙ ap (λ (list : List Question). earlier ++ list) (sym (take_more asks i q within))

  last_next : cond (nat_eq q.kid kid) (Some q.context) last ≡ last_context (earlier ++ take (i + 1) asks) kid
  last_next =
      ap (cond (nat_eq q.kid kid) (Some q.context)) h ∙ sym (last_more (earlier ++ take i asks) q kid)
      ∙ ap (λ (list : List Question). last_context list kid) next_asks

  pub asked_now : q.kid ≡ kid → Some q.context ≡ last_context (earlier ++ take (i + 1) asks) kid
  asked_now same = sym (ap (λ (b : Bool). cond b (Some q.context) last) (alike q.kid kid same)) ∙ last_next

  pub asked_before : (q.kid ≡ kid → ⊥) → last ≡ last_context (earlier ++ take (i + 1) asks) kid
  asked_before other = sym (ap (λ (b : Bool). cond b (Some q.context) last) (unlike q.kid kid other)) ∙ last_next

-- ---- places

module _ {X : Type 0} where
  set_here : (xs : List X) (i : ℕ) (x : X) → i < length xs → slice_get (set xs i x) i ≡ Some x
  set_here [] i x l = absurd (omega (arith, l))
  set_here (z ∷ xs) zero x l = refl
  set_here (z ∷ xs) (suc i) x l = set_here xs i x (omega (arith, l))

  set_elsewhere : (xs : List X) (i j : ℕ) (x : X) → (i ≡ j → ⊥) → slice_get (set xs i x) j ≡ slice_get xs j
  set_elsewhere [] i j x other = refl
  set_elsewhere (z ∷ xs) zero zero x other = absurd (other refl)
  set_elsewhere (z ∷ xs) zero (suc j) x other = refl
  set_elsewhere (z ∷ xs) (suc i) zero x other = refl
  set_elsewhere (z ∷ xs) (suc i) (suc j) x other = set_elsewhere xs i j x (λ same. other (ap suc same))

module _ (asks : List Question) (places : List (Option Context)) (q : Question) (h : AreLast asks places) where
  -- the place of a child is set to the context of the next question to it
  set_last : AreLast (asks ++ q ∷ []) (set places q.kid (Some q.context))
  set_last = record {
    at = λ kid within. by kid (omega (arith, within, length-set places q.kid (Some q.context))) (nat_eq q.kid kid) refl ∙ ap (λ (o : Option Context). Some o) (sym (last_more asks q kid));
  }
    where
      by : (kid : ℕ) → kid < length places → (b : Bool) → nat_eq q.kid kid ≡ b
          → slice_get (set places q.kid (Some q.context)) kid ≡ Some (cond b (Some q.context) (last_context asks kid))
      by kid l true e =
          let same = same_place q.kid kid e in
          ap (λ (i : ℕ). slice_get (set places i (Some q.context)) kid) same ∙ set_here places kid (Some q.context) l
      by kid l false e = set_elsewhere places q.kid kid (Some q.context) (other_place q.kid kid e) ∙ h.at kid l

-- the same of places that lend contexts, one question of a list after another
pub put_more : (before asks : List Question) (i : ℕ) (q : Question) (places : List (Option (Bor Context))) (shown : Bor Context) → i < length asks → q ≡ get_or asks i q
    → shown.now ≡ q.context → AreLast (before ++ take i asks) (seen_contexts places)
    → AreLast (before ++ take (i + 1) asks) (seen_contexts (set places q.kid (Some shown)))
put_more before asks i q places shown within is e h =
    let questions : (before ++ take i asks) ++ q ∷ [] ≡ before ++ take (i + 1) asks =
    append_assoc before (take i asks) (q ∷ [])
    ∙ ap (λ (x : Question). before ++ (take i asks ++ x ∷ [])) is
    ∙ ap (λ (list : List Question). before ++ list) (sym (take_more asks i q within)) in
    let seen : set (seen_contexts places) q.kid (Some q.context) ≡ seen_contexts (set places q.kid (Some shown)) =
    ap (λ (c : Context). set (seen_contexts places) q.kid (Some c)) (sym e) ∙ sym (map-set _ places q.kid (Some shown)) in
    subst (λ (list : List Question). AreLast list (seen_contexts (set places q.kid (Some shown)))) questions
    (subst (AreLast ((before ++ take i asks) ++ q ∷ [])) seen (set_last (before ++ take i asks) (seen_contexts places) q h))

-- ---- no question

abbrev AreNone : List (Option (Bor Context)) → Type 0
AreNone places = (kid : ℕ) → kid < length (seen_contexts places) → slice_get (seen_contexts places) kid ≡ Some None

more_none : (places : List (Option (Bor Context))) → AreNone places → AreNone (places ++ None ∷ [])
more_none [] h zero l = refl
more_none [] h (suc kid) l = absurd (omega (arith, l))
more_none (place ∷ places) h zero l = h 0 (omega arith)
more_none (place ∷ places) h (suc kid) l = more_none places (λ k n. h (suc k) (omega (arith, n))) kid (omega (arith, l))

pub none_more : (places : List (Option (Bor Context))) → AreLast [] (seen_contexts places) → AreLast [] (seen_contexts (places ++ None ∷ []))
none_more places h = record { at = more_none places h.at }

-- ---- which question is the last

pub record IsAskedLast (P : Question → Type 0) (kid : ℕ) (context : Context) : Type 0 where
  pub question : Question
  pub holds : P question
  pub to : question.kid ≡ kid
  pub in_context : question.context ≡ context

pub asked_last : (P : Question → Type 0) (asks : List Question) (kid : ℕ) (context : Context) → AllByRecursion P asks → last_context asks kid ≡ Some context → IsAskedLast P kid context
asked_last P [] kid context all e = absurd (none-some context e)
asked_last P (q ∷ asks) kid context all e = by (nat_eq q.kid kid) refl (asked_last P asks kid context all.1) e
  where
    later : List Context
    later = map context_in (filter (goes_to kid) asks)

    of_both : q.kid ≡ kid → (found : Option Context) → last_some later ≡ found → (last_some later ≡ Some context → IsAskedLast P kid context)
        → Some (unwrap_or found q.context) ≡ Some context → IsAskedLast P kid context
    of_both to None none rest e = record { question = q; holds = all.0; to = to; in_context = same_Some q.context context e }
    of_both to (Some other) some rest e = rest (some ∙ e)

    by : (b : Bool) → nat_eq q.kid kid ≡ b → (last_context asks kid ≡ Some context → IsAskedLast P kid context)
        → last_some (map context_in (cond b (q ∷ filter (goes_to kid) asks) (filter (goes_to kid) asks))) ≡ Some context → IsAskedLast P kid context
    by true to rest e = of_both (same_place q.kid kid to) (last_some later) refl rest (sym (last_behind q.context later) ∙ e)
    by false other rest e = rest e
