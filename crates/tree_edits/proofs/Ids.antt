-- Ids that differ still do where some go and others come that are new.
use Rattle.std.proofs.Common.{◌≡◌, ◌∙◌, sym, ap, subst, ℕ, ◌≤◌, ◌<◌, List, [], ◌∷◌, ◌++◌, false, nat_eq, arith}
use Rattle.std.proofs.lemmas.Bool.{ne_eqb, eqb-false}
use Rattle.std.proofs.lemmas.List.{map-append}
use Rattle.std.specs.List.{AllByRecursion, IsDistinct}
use Rattle.math_tree.proofs.Nodes.{all_parts}
use Rattle.math_tree.specs.Trees.{Listed, ids_of}
use Rattle.tree_edits.proofs.Exchanges.{Exchanged, all_join}

-- ---- numbers

all_without : (P : ℕ → Type 0) (xs ys zs : List ℕ) → AllByRecursion P (xs ++ (ys ++ zs)) → AllByRecursion P (xs ++ zs)
all_without P xs ys zs h =
    let first = all_parts P xs (ys ++ zs) h in
    all_join P xs zs first.0 (all_parts P ys zs first.1).1

distinct_behind : (xs ys : List ℕ) → IsDistinct nat_eq (xs ++ ys) → IsDistinct nat_eq ys
unfolding IsDistinct
distinct_behind [] ys d = d
distinct_behind (x ∷ xs) ys d = distinct_behind xs ys d.1

-- some of them go
distinct_without : (xs ys zs : List ℕ) → IsDistinct nat_eq (xs ++ (ys ++ zs)) → IsDistinct nat_eq (xs ++ zs)
unfolding IsDistinct
distinct_without [] ys zs d = distinct_behind ys zs d
distinct_without (x ∷ xs) ys zs d = (all_without (λ y. nat_eq x y ≡ false) xs ys zs d.0, distinct_without xs ys zs d.1)

unequal_to_higher : (a bound : ℕ) (ys : List ℕ) → a < bound → AllByRecursion (λ n. bound ≤ n) ys → AllByRecursion (λ y. nat_eq a y ≡ false) ys
unequal_to_higher a bound [] low h = tt
unequal_to_higher a bound (y ∷ ys) low h =
    let above = h.0 in
    (ne_eqb a y (λ same. omega (arith, same, low, above)), unequal_to_higher a bound ys low h.1)

unequal_to_lower : (a bound : ℕ) (zs : List ℕ) → bound ≤ a → AllByRecursion (λ n. n < bound) zs → AllByRecursion (λ z. nat_eq a z ≡ false) zs
unequal_to_lower a bound [] high h = tt
unequal_to_lower a bound (z ∷ zs) high h =
    let below = h.0 in
    (ne_eqb a z (λ same. omega (arith, same, high, below)), unequal_to_lower a bound zs high h.1)

distinct_above : (bound : ℕ) (ys zs : List ℕ) → IsDistinct nat_eq ys → AllByRecursion (λ n. bound ≤ n) ys
    → IsDistinct nat_eq zs → AllByRecursion (λ n. n < bound) zs → IsDistinct nat_eq (ys ++ zs)
unfolding IsDistinct
distinct_above bound [] zs d high e low = e
distinct_above bound (y ∷ ys) zs d high e low =
    (all_join (λ n. nat_eq y n ≡ false) ys zs d.0 (unequal_to_lower y bound zs high.0 low), distinct_above bound ys zs d.1 high.1 e low)

-- others come, which are at a bound or above it where all of these are below it
distinct_with : (bound : ℕ) (xs ys zs : List ℕ) → IsDistinct nat_eq (xs ++ zs) → AllByRecursion (λ n. n < bound) (xs ++ zs)
    → IsDistinct nat_eq ys → AllByRecursion (λ n. bound ≤ n) ys → IsDistinct nat_eq (xs ++ (ys ++ zs))
unfolding IsDistinct
distinct_with bound [] ys zs d low e high = distinct_above bound ys zs e high d low
distinct_with bound (x ∷ xs) ys zs d low e high =
    let parts = all_parts (λ n. nat_eq x n ≡ false) xs zs d.0 in (
      all_join (λ n. nat_eq x n ≡ false) xs (ys ++ zs) parts.0 (all_join (λ n. nat_eq x n ≡ false) ys zs (unequal_to_higher x bound ys low.0 high) parts.1),
      distinct_with bound xs ys zs d.1 low.1 e high,
    )

-- none of some numbers is among others
abbrev pub AreApart : List ℕ → List ℕ → Type 0
AreApart xs ys = AllByRecursion (λ x. AllByRecursion (λ y. nat_eq x y ≡ false) ys) xs

turned : (a b : ℕ) → nat_eq a b ≡ false → nat_eq b a ≡ false
turned a b h = ne_eqb b a (λ same. eqb-false a b h (sym same))

first_apart : (y : ℕ) (ys zs : List ℕ) → AreApart zs (y ∷ ys) → AllByRecursion (λ z. nat_eq y z ≡ false) zs × AreApart zs ys
first_apart y ys [] h = (tt, tt)
first_apart y ys (z ∷ zs) h =
    let rest = first_apart y ys zs h.1 in
    ((turned z y h.0.0, rest.0), (h.0.1, rest.1))

distinct_beside : (ys zs : List ℕ) → IsDistinct nat_eq ys → IsDistinct nat_eq zs → AreApart zs ys → IsDistinct nat_eq (ys ++ zs)
unfolding IsDistinct
distinct_beside [] zs d e apart = e
distinct_beside (y ∷ ys) zs d e apart =
    let parts = first_apart y ys zs apart in
    (all_join (λ n. nat_eq y n ≡ false) ys zs d.0 parts.0, distinct_beside ys zs d.1 e parts.1)

-- others come, among which none of these is
distinct_between : (xs ys zs : List ℕ) → IsDistinct nat_eq (xs ++ zs) → IsDistinct nat_eq ys → AreApart (xs ++ zs) ys
    → IsDistinct nat_eq (xs ++ (ys ++ zs))
unfolding IsDistinct
distinct_between [] ys zs d e apart = distinct_beside ys zs e d apart
distinct_between (x ∷ xs) ys zs d e apart =
    let parts = all_parts (λ n. nat_eq x n ≡ false) xs zs d.0 in (
      all_join (λ n. nat_eq x n ≡ false) xs (ys ++ zs) parts.0 (all_join (λ n. nat_eq x n ≡ false) ys zs apart.0 parts.1),
      distinct_between xs ys zs d.1 e apart.1,
    )

apart_from_none : (zs : List ℕ) → AreApart zs []
apart_from_none [] = tt
apart_from_none (z ∷ zs) = (tt, apart_from_none zs)

apart_from_more : (y : ℕ) (ys zs : List ℕ) → AllByRecursion (λ n. nat_eq y n ≡ false) zs → AreApart zs ys → AreApart zs (y ∷ ys)
apart_from_more y ys [] first rest = tt
apart_from_more y ys (z ∷ zs) first rest = ((turned y z first.0, rest.0), apart_from_more y ys zs first.1 rest.1)

front_apart : (ys zs : List ℕ) → IsDistinct nat_eq (ys ++ zs) → AreApart zs ys
unfolding IsDistinct
front_apart [] zs d = apart_from_none zs
front_apart (y ∷ ys) zs d = apart_from_more y ys zs (all_parts (λ n. nat_eq y n ≡ false) ys zs d.0).1 (front_apart ys zs d.1)

-- those that go are apart from those that stay
gone_apart : (xs ys zs : List ℕ) → IsDistinct nat_eq (xs ++ (ys ++ zs)) → AreApart (xs ++ zs) ys
unfolding IsDistinct
gone_apart [] ys zs d = front_apart ys zs d
gone_apart (x ∷ xs) ys zs d =
    let own = all_parts (λ n. nat_eq x n ≡ false) xs (ys ++ zs) d.0 in
    ((all_parts (λ n. nat_eq x n ≡ false) ys zs own.1).0, gone_apart xs ys zs d.1)

distinct_front : (ys zs : List ℕ) → IsDistinct nat_eq (ys ++ zs) → IsDistinct nat_eq ys
unfolding IsDistinct
distinct_front [] zs d = tt
distinct_front (y ∷ ys) zs d = ((all_parts (λ n. nat_eq y n ≡ false) ys zs d.0).0, distinct_front ys zs d.1)

-- those at a bound or above it are apart from those below it
pub higher_apart : (bound : ℕ) (ys zs : List ℕ) → AllByRecursion (λ n. bound ≤ n) ys → AllByRecursion (λ n. n < bound) zs → AreApart ys zs
higher_apart bound [] zs high low = tt
higher_apart bound (y ∷ ys) zs high low = (unequal_to_lower y bound zs high.0 low, higher_apart bound ys zs high.1 low)

pub apart_turned : (xs ys : List ℕ) → AreApart xs ys → AreApart ys xs
apart_turned [] ys h = apart_from_none ys
apart_turned (x ∷ xs) ys h = apart_from_more x xs ys h.0 (apart_turned xs ys h.1)

-- ---- elements

abbrev id_of : Listed → ℕ
id_of e = e.head.id.0

ids-append : (xs ys : List Listed) → ids_of (xs ++ ys) ≡ ids_of xs ++ ids_of ys
ids-append xs ys = map-append id_of xs ys

grouped : (first gone back : List Listed) → ids_of (first ++ (gone ++ back)) ≡ ids_of first ++ (ids_of gone ++ ids_of back)
grouped first gone back = ids-append first (gone ++ back) ∙ ap (λ l. ids_of first ++ l) (ids-append gone back)

same_first : (front : List Listed) (own made : Listed) (middle : List Listed) → id_of own ≡ id_of made
    → ids_of (front ++ (own ∷ middle)) ≡ ids_of (front ++ (made ∷ middle))
same_first front own made middle same =
    ids-append front (own ∷ middle) ∙ ap (λ n. ids_of front ++ (n ∷ ids_of middle)) same ∙ sym (ids-append front (made ∷ middle))

module _ {before after : List Listed} {own made : Listed} {gone new : List Listed} (exchange : Exchanged before after own made gone new) (same : id_of own ≡ id_of made) where
  were : ids_of before ≡ ids_of (exchange.front ++ (made ∷ exchange.middle)) ++ (ids_of gone ++ ids_of exchange.back)
  were =
      ap ids_of exchange.was
      ∙ grouped (exchange.front ++ (own ∷ exchange.middle)) gone exchange.back
      ∙ ap (λ l. l ++ (ids_of gone ++ ids_of exchange.back)) (same_first exchange.front own made exchange.middle same)

  are : ids_of after ≡ ids_of (exchange.front ++ (made ∷ exchange.middle)) ++ (ids_of new ++ ids_of exchange.back)
  are = ap ids_of exchange.is ∙ grouped (exchange.front ++ (made ∷ exchange.middle)) new exchange.back

  -- they differ still
  pub distinct_exchanged : (bound : ℕ) → IsDistinct nat_eq (ids_of before) → AllByRecursion (λ n. n < bound) (ids_of before)
      → IsDistinct nat_eq (ids_of new) → AllByRecursion (λ n. bound ≤ n) (ids_of new) → IsDistinct nat_eq (ids_of after)
  distinct_exchanged bound d low e high =
      let first = ids_of (exchange.front ++ (made ∷ exchange.middle)) in
      let back = ids_of exchange.back in
      let left = distinct_without first (ids_of gone) back (subst (IsDistinct nat_eq) were d) in
      let below = all_without (λ n. n < bound) first (ids_of gone) back (subst (AllByRecursion (λ n. n < bound)) were low) in
      subst (IsDistinct nat_eq) (sym are) (distinct_with bound first (ids_of new) back left below e high)

  -- and are below a bound, where these are and those that come
  pub given_exchanged : (bound : ℕ) → AllByRecursion (λ n. n < bound) (ids_of before) → AllByRecursion (λ n. n < bound) (ids_of new)
      → AllByRecursion (λ n. n < bound) (ids_of after)
  given_exchanged bound low more =
      let P : ℕ → Type 0 = λ n. n < bound in
      let first = ids_of (exchange.front ++ (made ∷ exchange.middle)) in
      let back = ids_of exchange.back in
      let both = all_parts P first (ids_of gone ++ back) (subst (AllByRecursion P) were low) in
      subst (AllByRecursion P) (sym are)
      (all_join P first (ids_of new ++ back) both.0 (all_join P (ids_of new) back more (all_parts P (ids_of gone) back both.1).1))

  -- they differ where none of those that come is among them
  pub distinct_free : IsDistinct nat_eq (ids_of before) → IsDistinct nat_eq (ids_of new) → AreApart (ids_of before) (ids_of new)
      → IsDistinct nat_eq (ids_of after)
  distinct_free d e apart =
      let P : ℕ → Type 0 = λ x. AllByRecursion (λ y. nat_eq x y ≡ false) (ids_of new) in
      let first = ids_of (exchange.front ++ (made ∷ exchange.middle)) in
      let back = ids_of exchange.back in
      let left = distinct_without first (ids_of gone) back (subst (IsDistinct nat_eq) were d) in
      let free = all_without P first (ids_of gone) back (subst (AllByRecursion P) were apart) in
      subst (IsDistinct nat_eq) (sym are) (distinct_between first (ids_of new) back left e free)

  -- of those that go each differs from the others and from all that stay
  pub record HasGone : Type 0 where
    pub distinct : IsDistinct nat_eq (ids_of gone)
    pub apart : AreApart (ids_of (exchange.front ++ (made ∷ exchange.middle)) ++ ids_of exchange.back) (ids_of gone)

  pub has_gone : IsDistinct nat_eq (ids_of before) → HasGone
  has_gone d =
      let first = ids_of (exchange.front ++ (made ∷ exchange.middle)) in
      let back = ids_of exchange.back in
      let all = subst (IsDistinct nat_eq) were d in
      record {
        distinct = distinct_front (ids_of gone) back (distinct_behind first (ids_of gone ++ back) all);
        apart = gone_apart first (ids_of gone) back all;
      }

  -- what holds of all that stay and of those that come holds of all
  pub all_after : (P : ℕ → Type 0) → AllByRecursion P (ids_of (exchange.front ++ (made ∷ exchange.middle)) ++ ids_of exchange.back)
      → AllByRecursion P (ids_of new) → AllByRecursion P (ids_of after)
  all_after P stay come =
      let first = ids_of (exchange.front ++ (made ∷ exchange.middle)) in
      let back = ids_of exchange.back in
      let both = all_parts P first back stay in
      subst (AllByRecursion P) (sym are) (all_join P first (ids_of new ++ back) both.0 (all_join P (ids_of new) back come both.1))

  -- of those that go each is below a bound, where all are
  pub gone_given : (P : ℕ → Type 0) → AllByRecursion P (ids_of before) → AllByRecursion P (ids_of gone)
  gone_given P all =
      let first = ids_of (exchange.front ++ (made ∷ exchange.middle)) in
      let back = ids_of exchange.back in
      (all_parts P (ids_of gone) back (all_parts P first (ids_of gone ++ back) (subst (AllByRecursion P) were all)).1).0
