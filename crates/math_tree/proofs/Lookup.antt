-- What a search finds among attributes in order.
use Rattle.std.proofs.Common.{◌≡◌, ◌∙◌, sym, ap, refl, subst, inl, inr, ℕ, zero, suc, ◌+◌, ◌<◌, List, [], ◌∷◌, length, get_or, true, false, Some, None, Ok, Err, nat_cmp, Ordering, Less, Equal, Greater, is_eq, arith}
use Rattle.std.proofs.lemmas.Bool.{cases_lt}
use Rattle.std.proofs.lemmas.Cmp.{nat_list_cmp_total}
use Rattle.std.proofs.lemmas.List.{length-map}
use Rattle.std.proofs.lemmas.List.Sorted.{searchable_from_sorted}
use Rattle.std.proofs.lemmas.Map.Keys.{Less-from_sorted}
use Rattle.std.proofs.lemmas.Map.Text.{is_eq-slice_cmp}
use Rattle.std.proofs.lemmas.Slice.Eq.{bytes_eq-Decides}
use Rattle.std.specs.Cmp.Lexicographic.{slice_cmp}
use Rattle.std.specs.List.Sorted.{IsBinarySearchResult, IsNonDecreasingBy, IsSearchInRange, IsSortedBy}
use Rattle.std.specs.Ordering.{is_lt, ordering_reverse, ordering_index}
use Rattle.std.specs.Str.{bytes_eq}
use Rattle.math_tree.specs.Attributes.{IsInOrder, value_of, names_of}
use Rattle.math_tree.specs.declared.attributes.Attribute.{Attribute}

abbrev pub compare : List ℕ → List ℕ → Ordering
compare = slice_cmp nat_cmp

-- the test by which a value is found says what the order says
pub tested : (a b : List ℕ) (o : Ordering) → compare a b ≡ o → bytes_eq a b ≡ is_eq o
tested a b o e = sym (is_eq-slice_cmp a b) ∙ ap is_eq e

name_at : (xs : List Attribute) (i : ℕ) (d : Attribute) → i < length xs → get_or (names_of xs) i d.name ≡ (get_or xs i d).name
name_at [] i d h = absurd (omega arith)
name_at (x ∷ xs) zero d h = refl
name_at (x ∷ xs) (suc i) d h = name_at xs i d (omega arith)

pub rising : (xs : List Attribute) → IsInOrder xs → (i j : ℕ) (d : Attribute) → i < j → j < length xs
    → compare (get_or xs i d).name (get_or xs j d).name ≡ Less
rising xs order i j d h within =
    let less = Less-from_sorted compare (names_of xs) i j d.name order h (rw (length-map xs (λ (a : Attribute). a.name)) within) in
    rw (← name_at xs i d (omega (arith, h, within)), ← name_at xs j d within) less

sorted : (xs : List Attribute) → IsInOrder xs → IsSortedBy (λ a b. is_lt (compare a.name b.name)) xs
sorted xs order k d low h =
    let less = rising xs order k (k + 1) d (omega arith) h in
    let this = (get_or xs k d).name in
    let next = (get_or xs (k + 1) d).name in
    ap is_lt (nat_list_cmp_total.antisymm next this ∙ ap ordering_reverse less)

pub searchable : (xs : List Attribute) (name : List ℕ) → IsInOrder xs
    → IsNonDecreasingBy (λ a. ordering_index (compare a.name name)) xs
searchable xs name order = searchable_from_sorted nat_list_cmp_total (λ (a : Attribute). a.name) xs name (sorted xs order)

pub nobody : Attribute
nobody = record { name = []; value = [] }

-- the first of that name is found
found : (xs : List Attribute) (name : List ℕ) (i : ℕ) (d : Attribute) → i < length xs
    → ((k : ℕ) → k < i → bytes_eq (get_or xs k d).name name ≡ false)
    → bytes_eq (get_or xs i d).name name ≡ true → value_of name xs ≡ Some (get_or xs i d).value
found [] name i d h before e = absurd (omega arith)
found (x ∷ xs) name zero d h before e = rw e refl
found (x ∷ xs) name (suc i) d h before e =
    rw (before 0 (omega arith)) (found xs name i d (omega arith) (λ k less. before (suc k) (omega arith)) e)

missing : (xs : List Attribute) (name : List ℕ) (d : Attribute)
    → ((k : ℕ) → k < length xs → bytes_eq (get_or xs k d).name name ≡ false) → value_of name xs ≡ None
missing [] name d each = refl
missing (x ∷ xs) name d each = rw (each 0 (omega arith)) (missing xs name d (λ k less. each (suc k) (omega arith)))

-- a binary search by the name ends where the value is, or where none is
module _ (xs : List Attribute) (name : List ℕ) (order : IsInOrder xs) where
  pub found_at : (i : ℕ) (a : Attribute) → i < length xs
      → IsBinarySearchResult (λ a. compare a.name name) xs (Ok i) → a ≡ get_or xs i a → value_of name xs ≡ Some a.value
  found_at i a within equal here =
      let same = (bytes_eq-Decides (get_or xs i a).name name).0 (tested (get_or xs i a).name name Equal (equal a)) in
      let other : (k : ℕ) → k < i → bytes_eq (get_or xs k a).name name ≡ false = λ k less.
      tested (get_or xs k a).name name Less (subst (λ n. compare (get_or xs k a).name n ≡ Less) same (rising xs order k i a less within)) in
      found xs name i a within other (tested (get_or xs i a).name name Equal (equal a)) ∙ ap (λ (x : Attribute). Some x.value) (sym here)

  pub found_nowhere : (i : ℕ) → IsSearchInRange (Err i) (length xs)
      → IsBinarySearchResult (λ a. compare a.name name) xs (Err i) → value_of name xs ≡ None
  found_nowhere i within parted =
      let sides = parted (searchable xs name order) in
      missing xs name nobody (λ k h. elim (cases_lt k i) [
        | inl below ↦ tested (get_or xs k nobody).name name Less (sides.0 k nobody (omega arith) below)
        | inr above ↦ tested (get_or xs k nobody).name name Greater (sides.1 k nobody above h)
      ])
