-- An attribute that is put among attributes in order, or taken out, at the place that a search finds.
use Rattle.std.proofs.Common.{◌≡◌, ◌∙◌, sym, ap, refl, subst, inl, inr, ℕ, zero, suc, ◌<◌, ◌≤◌, List, [], ◌∷◌, length, get_or, slice_get, slice_set, Some, Bool, true, false, not, cond, Ordering, Ok, Err, Less, Equal, Greater, arith}
use Rattle.std.proofs.lemmas.Bool.{cases_lt}
use Rattle.std.proofs.lemmas.Cmp.{nat_list_cmp_total}
use Rattle.std.proofs.lemmas.Option.{none-some, same_Some}
use Rattle.std.proofs.lemmas.Slice.Eq.{bytes_eq-Decides}
use Rattle.std.specs.List.{AllByRecursion, insert, remove}
use Rattle.std.specs.List.Sorted.{IsBinarySearchResult, IsSearchInRange, IsStrictlySortedBy}
use Rattle.std.specs.Ordering.{match_ordering, ordering_reverse}
use Rattle.std.specs.Str.{bytes_eq}
use Rattle.math_tree.specs.Attributes.{IsInOrder, names_of, put, without}
use Rattle.math_tree.specs.declared.attributes.Attribute.{Attribute}
use Rattle.math_tree.proofs.Lookup.{compare, tested, rising, searchable, nobody}

turned : (a b : List ℕ) (o : Ordering) → compare a b ≡ o → compare b a ≡ ordering_reverse o
turned a b o e = nat_list_cmp_total.antisymm b a ∙ ap ordering_reverse e

-- what stands at a place, said of both ways to look
pub at_place : (xs : List Attribute) (i : ℕ) (a d : Attribute) → slice_get xs i ≡ Some a → a ≡ get_or xs i d
at_place [] i a d e = absurd (none-some a e)
at_place (x ∷ xs) zero a d e = sym (same_Some x a e)
at_place (x ∷ xs) (suc i) a d e = at_place xs i a d e

-- ---- where it goes

-- the first of that name gives way
pub put_found : (xs : List Attribute) (a : Attribute) (i : ℕ) (d : Attribute) → i < length xs
    → ((k : ℕ) → k < i → compare (get_or xs k d).name a.name ≡ Less)
    → compare (get_or xs i d).name a.name ≡ Equal → put a xs ≡ slice_set xs i a
put_found [] a i d h before e = absurd (omega arith)
put_found (x ∷ xs) a zero d h before e = rw (turned x.name a.name Equal e) refl
put_found (x ∷ xs) a (suc i) d h before e =
    rw (turned x.name a.name Less (before 0 (omega arith)))
    (ap (◌∷◌ x) (put_found xs a i d (omega arith) (λ k less. before (suc k) (omega arith)) e))

-- where none has that name, it stands between those before and those behind
pub put_absent : (xs : List Attribute) (a : Attribute) (i : ℕ) (d : Attribute) → i ≤ length xs
    → ((k : ℕ) → k < i → compare (get_or xs k d).name a.name ≡ Less)
    → ((k : ℕ) → i ≤ k → k < length xs → compare (get_or xs k d).name a.name ≡ Greater) → put a xs ≡ insert xs i a
put_absent [] a zero d h before behind = refl
put_absent [] a (suc i) d h before behind = absurd (omega arith)
put_absent (x ∷ xs) a zero d h before behind = rw (turned x.name a.name Greater (behind 0 (omega arith) (omega arith))) refl
put_absent (x ∷ xs) a (suc i) d h before behind =
    rw (turned x.name a.name Less (before 0 (omega arith)))
    (ap (◌∷◌ x) (put_absent xs a i d (omega arith) (λ k less. before (suc k) (omega arith)) (λ k more less. behind (suc k) (omega arith) (omega arith))))

-- ---- what is left where one is taken out

kept : (test : Bool) (x : Attribute) (xs : List Attribute) → test ≡ false → cond (not test) (x ∷ xs) xs ≡ x ∷ xs
kept test x xs e = rw e refl

dropped : (test : Bool) (x : Attribute) (xs : List Attribute) → test ≡ true → cond (not test) (x ∷ xs) xs ≡ xs
dropped test x xs e = rw e refl

pub without_absent : (xs : List Attribute) (name : List ℕ) (d : Attribute)
    → ((k : ℕ) → k < length xs → bytes_eq (get_or xs k d).name name ≡ false) → without name xs ≡ xs
without_absent [] name d each = refl
without_absent (x ∷ xs) name d each =
    kept (bytes_eq x.name name) x (without name xs) (each 0 (omega arith))
    ∙ ap (◌∷◌ x) (without_absent xs name d (λ k less. each (suc k) (omega arith)))

pub without_found : (xs : List Attribute) (name : List ℕ) (i : ℕ) (d : Attribute) → i < length xs
    → ((k : ℕ) → k < i → bytes_eq (get_or xs k d).name name ≡ false)
    → bytes_eq (get_or xs i d).name name ≡ true
    → ((k : ℕ) → i < k → k < length xs → bytes_eq (get_or xs k d).name name ≡ false)
    → without name xs ≡ remove xs i
without_found [] name i d h before e behind = absurd (omega arith)
without_found (x ∷ xs) name zero d h before e behind =
    dropped (bytes_eq x.name name) x (without name xs) e
    ∙ without_absent xs name d (λ k less. behind (suc k) (omega arith) (omega arith))
without_found (x ∷ xs) name (suc i) d h before e behind =
    kept (bytes_eq x.name name) x (without name xs) (before 0 (omega arith))
    ∙ ap (◌∷◌ x) (without_found xs name i d (omega arith) (λ k less. before (suc k) (omega arith)) e (λ k more less. behind (suc k) (omega arith) (omega arith)))

-- ---- the order stays

abbrev IsBelow : List ℕ → List ℕ → Type 0
IsBelow name other = compare name other ≡ Less

all_put : (P : List ℕ → Type 0) (a : Attribute) (xs : List Attribute) → P a.name
    → AllByRecursion P (names_of xs) → AllByRecursion P (names_of (put a xs))
all_put P a [] own h = (own, tt)
all_put P a (x ∷ xs) own h =
    elim (compare a.name x.name) as (λ o. AllByRecursion P (names_of (match_ordering o (a ∷ x ∷ xs) (a ∷ xs) (x ∷ put a xs)))) [
      | Less ↦ (own, h)
      | Equal ↦ (own, h.1)
      | Greater ↦ (h.0, all_put P a xs own h.1)
    ]

all_further : (a b : List ℕ) (names : List (List ℕ)) → IsBelow a b → AllByRecursion (IsBelow b) names → AllByRecursion (IsBelow a) names
all_further a b [] less h = tt
all_further a b (name ∷ names) less h = (nat_list_cmp_total.trans a b name less h.0, all_further a b names less h.1)

all_same : (a b : List ℕ) (names : List (List ℕ)) → compare a b ≡ Equal → AllByRecursion (IsBelow b) names → AllByRecursion (IsBelow a) names
all_same a b [] same h = tt
all_same a b (name ∷ names) same h = (nat_list_cmp_total.congr a b name same ∙ h.0, all_same a b names same h.1)

in_order_at : (a x : Attribute) (xs : List Attribute) (o : Ordering) → compare a.name x.name ≡ o
    → IsInOrder (x ∷ xs) → IsInOrder (put a xs) → IsInOrder (match_ordering o (a ∷ x ∷ xs) (a ∷ xs) (x ∷ put a xs))
unfolding IsStrictlySortedBy
in_order_at a x xs Less e h more = ((e, all_further a.name x.name (names_of xs) e h.0), h)
in_order_at a x xs Equal e h more = (all_same a.name x.name (names_of xs) e h.0, h.1)
in_order_at a x xs Greater e h more = (all_put (IsBelow x.name) a xs (turned a.name x.name Greater e) h.0, more)

pub put_in_order : (a : Attribute) (xs : List Attribute) → IsInOrder xs → IsInOrder (put a xs)
unfolding IsStrictlySortedBy
put_in_order a [] h = (tt, tt)
put_in_order a (x ∷ xs) h = in_order_at a x xs (compare a.name x.name) refl h (put_in_order a xs h.1)

all_without : (P : List ℕ → Type 0) (name : List ℕ) (xs : List Attribute)
    → AllByRecursion P (names_of xs) → AllByRecursion P (names_of (without name xs))
all_without P name [] h = tt
all_without P name (x ∷ xs) h =
    elim (bytes_eq x.name name) as (λ b. AllByRecursion P (names_of (cond (not b) (x ∷ without name xs) (without name xs)))) [
      | true ↦ all_without P name xs h.1
      | false ↦ (h.0, all_without P name xs h.1)
    ]

pub without_in_order : (name : List ℕ) (xs : List Attribute) → IsInOrder xs → IsInOrder (without name xs)
unfolding IsStrictlySortedBy
without_in_order name [] h = tt
without_in_order name (x ∷ xs) h =
    elim (bytes_eq x.name name) as (λ b. IsInOrder (cond (not b) (x ∷ without name xs) (without name xs))) [
      | true ↦ without_in_order name xs h.1
      | false ↦ (all_without (IsBelow x.name) name xs h.0, without_in_order name xs h.1)
    ]

-- ---- at the place that a search finds

module _ (xs : List Attribute) (order : IsInOrder xs) where
  pub put_at : (a : Attribute) (i : ℕ) (d : Attribute) → i < length xs
      → IsBinarySearchResult (λ x. compare x.name a.name) xs (Ok i) → put a xs ≡ slice_set xs i a
  put_at a i d within equal =
      let same = (bytes_eq-Decides (get_or xs i d).name a.name).0 (tested (get_or xs i d).name a.name Equal (equal d)) in
      put_found xs a i d within
      (λ k less. subst (λ n. compare (get_or xs k d).name n ≡ Less) same (rising xs order k i d less within)) (equal d)

  pub put_between : (a : Attribute) (i : ℕ) → IsSearchInRange (Err i) (length xs)
      → IsBinarySearchResult (λ x. compare x.name a.name) xs (Err i) → put a xs ≡ insert xs i a
  put_between a i within parted =
      let sides = parted (searchable xs a.name order) in
      put_absent xs a i a within (λ k less. sides.0 k a (omega (arith, within, less)) less) (λ k more less. sides.1 k a more less)

  pub without_at : (name : List ℕ) (i : ℕ) (d : Attribute) → i < length xs
      → IsBinarySearchResult (λ x. compare x.name name) xs (Ok i) → without name xs ≡ remove xs i
  without_at name i d within equal =
      let same = (bytes_eq-Decides (get_or xs i d).name name).0 (tested (get_or xs i d).name name Equal (equal d)) in
      let below : (k : ℕ) → k < i → bytes_eq (get_or xs k d).name name ≡ false = λ k less.
      tested (get_or xs k d).name name Less (subst (λ n. compare (get_or xs k d).name n ≡ Less) same (rising xs order k i d less within)) in
      let above : (k : ℕ) → i < k → k < length xs → bytes_eq (get_or xs k d).name name ≡ false = λ k more less.
      tested (get_or xs k d).name name Greater (turned name (get_or xs k d).name Less (subst (λ n. compare n (get_or xs k d).name ≡ Less) same (rising xs order i k d more less))) in
      without_found xs name i d within below (tested (get_or xs i d).name name Equal (equal d)) above

  pub without_nowhere : (name : List ℕ) (i : ℕ) → IsSearchInRange (Err i) (length xs)
      → IsBinarySearchResult (λ x. compare x.name name) xs (Err i) → without name xs ≡ xs
  without_nowhere name i within parted =
      let sides = parted (searchable xs name order) in
      without_absent xs name nobody (λ k h. elim (cases_lt k i) [
        | inl below ↦ tested (get_or xs k nobody).name name Less (sides.0 k nobody (omega arith) below)
        | inr above ↦ tested (get_or xs k nobody).name name Greater (sides.1 k nobody above h)
      ])
