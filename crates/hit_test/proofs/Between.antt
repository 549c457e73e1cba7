-- From the first of some items that passes to the last, one item after another.
use Rattle.std.proofs.Common.{◌≡◌, ◌∙◌, refl, sym, ap, subst, ℕ, ◌+◌, ◌-◌, ◌≤◌, ◌<◌, min, Bool, true, false, ◌||◌, cond, List, [], ◌∷◌, ◌++◌, length, take, drop, arith}
use Rattle.std.specs.Prelude.{reverse}
use Rattle.std.specs.List.{list_any}
use Rattle.std.proofs.Math.Seq.{drop-append_seam}
use Rattle.std.proofs.lemmas.List.{drop-append-le, length-append, length-drop, reverse-append, reverse-reverse, take-append-le, take_all}
use Rattle.std.proofs.lemmas.List.Folds.{list_any-append}
use Rattle.hit_test.specs.Running.{Spans}
use Rattle.hit_test.specs.Selecting.{between, from_first}

module _ {A : Type 0} (test : A → Bool) where
  -- an item that doesn't pass, at the front
  first_skips : (x : A) (xs : List A) → test x ≡ false → from_first test (x ∷ xs) ≡ from_first test xs
  first_skips x xs e = ap (λ (b : Bool). cond b (x ∷ xs) (from_first test xs)) e

  first_takes : (x : A) (xs : List A) → test x ≡ true → from_first test (x ∷ xs) ≡ x ∷ xs
  first_takes x xs e = ap (λ (b : Bool). cond b (x ∷ xs) (from_first test xs)) e

  -- behind items of which one passes
  first_behind : (xs ys : List A) → list_any test xs ≡ true → from_first test (xs ++ ys) ≡ from_first test xs ++ ys
  first_behind [] ys e = absurd cc
  first_behind (x ∷ xs) ys e = by (first_behind xs ys) (test x) e
    where
      by : (list_any test xs ≡ true → from_first test (xs ++ ys) ≡ from_first test xs ++ ys) → (b : Bool) → (b || list_any test xs) ≡ true
          → cond b (x ∷ (xs ++ ys)) (from_first test (xs ++ ys)) ≡ cond b (x ∷ xs) (from_first test xs) ++ ys
      by more true h = refl
      by more false h = more h

  -- and of which none does
  first_beyond : (xs ys : List A) → list_any test xs ≡ false → from_first test (xs ++ ys) ≡ from_first test ys
  first_beyond [] ys e = refl
  first_beyond (x ∷ xs) ys e = by (first_beyond xs ys) (test x) e
    where
      by : (list_any test xs ≡ false → from_first test (xs ++ ys) ≡ from_first test ys) → (b : Bool) → (b || list_any test xs) ≡ false
          → cond b (x ∷ (xs ++ ys)) (from_first test (xs ++ ys)) ≡ from_first test ys
      by more true h = absurd cc
      by more false h = more h

  first_none : (xs : List A) → list_any test xs ≡ false → from_first test xs ≡ []
  first_none [] e = refl
  first_none (x ∷ xs) e = by (first_none xs) (test x) e
    where
      by : (list_any test xs ≡ false → from_first test xs ≡ []) → (b : Bool) → (b || list_any test xs) ≡ false → cond b (x ∷ xs) (from_first test xs) ≡ []
      by more true h = absurd cc
      by more false h = more h

  between_none : (xs : List A) → list_any test xs ≡ false → between test xs ≡ []
  unfolding between
  between_none xs e = ap (λ l. reverse (from_first test (reverse l))) (first_none xs e)

  any_more : (xs : List A) (x : A) (b : Bool) → test x ≡ b → list_any test (xs ++ x ∷ []) ≡ (list_any test xs || b)
  any_more xs x b e = list_any-append test xs (x ∷ []) ∙ ap (λ (c : Bool). list_any test xs || (c || false)) e ∙ or_false
    where
      one : (c : Bool) → (c || false) ≡ c
      one true = refl
      one false = refl

      or_false : (list_any test xs || (b || false)) ≡ (list_any test xs || b)
      or_false = ap (λ (c : Bool). list_any test xs || c) (one b)

  reverse_more : (xs : List A) (x : A) → reverse (xs ++ x ∷ []) ≡ x ∷ reverse xs
  reverse_more xs x = reverse-append xs (x ∷ [])

  -- one more that passes: all from the first on
  between_taken : (xs : List A) (x : A) → test x ≡ true → between test (xs ++ x ∷ []) ≡ from_first test (xs ++ x ∷ [])
  unfolding between
  between_taken xs x e = by (list_any test xs) refl
    where
      ends : (front : List A) → from_first test (xs ++ x ∷ []) ≡ front ++ x ∷ [] → reverse (from_first test (reverse (from_first test (xs ++ x ∷ [])))) ≡ from_first test (xs ++ x ∷ [])
      ends front is =
          ap (λ l. reverse (from_first test (reverse l))) is
          ∙ ap (λ l. reverse (from_first test l)) (reverse_more front x)
          ∙ ap reverse (first_takes x (reverse front) e)
          ∙ ap reverse (sym (reverse_more front x))
          ∙ reverse-reverse (front ++ x ∷ [])
          ∙ sym is

      by : (b : Bool) → list_any test xs ≡ b → reverse (from_first test (reverse (from_first test (xs ++ x ∷ [])))) ≡ from_first test (xs ++ x ∷ [])
      by true f = ends (from_first test xs) (first_behind xs (x ∷ []) f)
      by false f = ends [] (first_beyond xs (x ∷ []) f ∙ first_takes x [] e)

  -- one more that doesn't: the same
  between_skipped : (xs : List A) (x : A) → test x ≡ false → between test (xs ++ x ∷ []) ≡ between test xs
  unfolding between
  between_skipped xs x e = by (list_any test xs) refl
    where
      by : (b : Bool) → list_any test xs ≡ b → reverse (from_first test (reverse (from_first test (xs ++ x ∷ [])))) ≡ reverse (from_first test (reverse (from_first test xs)))
      by true f =
          ap (λ l. reverse (from_first test (reverse l))) (first_behind xs (x ∷ []) f)
          ∙ ap (λ l. reverse (from_first test l)) (reverse_more (from_first test xs) x)
          ∙ ap reverse (first_skips x (reverse (from_first test xs)) e)
      by false f =
          ap (λ l. reverse (from_first test (reverse l))) (first_beyond xs (x ∷ []) f ∙ first_skips x [] e ∙ sym (first_none xs f))

  -- ---- the places, item by item

  take_none : (n : ℕ) (xs : List A) → n ≡ 0 → take n xs ≡ []
  take_none n xs e = ap (λ k. take k xs) e

  pub spans_none : (most : ℕ) → Spans test [] most most 0
  unfolding between
  spans_none most = record {
    within = omega arith;
    cut = sym (take_none (0 - most) (drop most []) (omega arith));
    none = λ e. (refl, refl);
    some = λ e. absurd cc;
  }

  pub spans_skip : (xs : List A) (x : A) (most from to : ℕ) → test x ≡ false → Spans test xs most from to → Spans test (xs ++ x ∷ []) most from to
  spans_skip xs x most from to e s = by (list_any test xs) refl
    where
      longer : length (xs ++ x ∷ []) ≡ length xs + 1
      longer = length-append xs (x ∷ [])

      by : (b : Bool) → list_any test xs ≡ b → Spans test (xs ++ x ∷ []) most from to
      by true f =
          let some = s.some f in
          let low : from ≤ length xs = omega (arith, some.0, s.within) in
          let room : to - from ≤ length (drop from xs) = omega (arith, length-drop from xs, s.within) in
          record {
            within = omega (arith, s.within, longer);
            cut = between_skipped xs x e ∙ s.cut
                ∙ sym (ap (take (to - from)) (drop-append-le from xs (x ∷ []) low) ∙ take-append-le (to - from) (drop from xs) (x ∷ []) room);
            none = λ g. absurd (let h = sym f ∙ or_left f g in cc);
            some = λ g. (some.0, first_behind xs (x ∷ []) f ∙ ap (λ l. l ++ x ∷ []) some.1 ∙ sym (drop-append-le from xs (x ∷ []) low));
          }
        where
          or_left : list_any test xs ≡ true → list_any test (xs ++ x ∷ []) ≡ false → list_any test xs ≡ false
          or_left f g = absurd (let h = sym (ap (λ (c : Bool). c || false) f) ∙ sym (any_more xs x false e) ∙ g in cc)
      by false f =
          let none = s.none f in
          record {
            within = omega (arith, s.within, longer);
            cut = between_skipped xs x e ∙ between_none xs f ∙ sym (take_none (to - from) (drop from (xs ++ x ∷ [])) (omega (arith, none.1)));
            none = λ g. none;
            some = λ g. absurd (let h = sym (ap (λ (c : Bool). c || false) f) ∙ sym (any_more xs x false e) ∙ g in cc);
          }

  pub spans_take : (xs : List A) (x : A) (most from to : ℕ) → test x ≡ true → length xs < most → Spans test xs most from to
      → Spans test (xs ++ x ∷ []) most (min from (length xs)) (length xs + 1)
  spans_take xs x most from to e room s = by (list_any test xs) refl
    where
      longer : length (xs ++ x ∷ []) ≡ length xs + 1
      longer = length-append xs (x ∷ [])

      all : (place : ℕ) → place ≤ length xs → from_first test (xs ++ x ∷ []) ≡ drop place (xs ++ x ∷ []) → place ≡ min from (length xs)
          → Spans test (xs ++ x ∷ []) most (min from (length xs)) (length xs + 1)
      all place low first is = subst (λ p. Spans test (xs ++ x ∷ []) most p (length xs + 1)) is record {
        within = omega (arith, longer);
        cut = between_taken xs x e ∙ first
            ∙ sym (take_all (length xs + 1 - place) (drop place (xs ++ x ∷ [])) (omega (arith, length-drop place (xs ++ x ∷ []), longer)));
        none = λ g. absurd (let h = sym (any_true (list_any test xs)) ∙ sym (any_more xs x true e) ∙ g in cc);
        some = λ g. (omega (arith, low), first);
      }
        where
          any_true : (b : Bool) → (b || true) ≡ true
          any_true true = refl
          any_true false = refl

      by : (b : Bool) → list_any test xs ≡ b → Spans test (xs ++ x ∷ []) most (min from (length xs)) (length xs + 1)
      by true f =
          let some = s.some f in
          let low : from ≤ length xs = omega (arith, some.0, s.within) in
          all from low (first_behind xs (x ∷ []) f ∙ ap (λ l. l ++ x ∷ []) some.1 ∙ sym (drop-append-le from xs (x ∷ []) low)) (omega (arith, low))
      by false f =
          let none = s.none f in
          all (length xs) (omega arith) (first_beyond xs (x ∷ []) f ∙ first_takes x [] e ∙ sym (drop-append_seam xs (x ∷ []))) (omega (arith, none.0, room))
