-- The bytes of attributes of which one is set or removed.
use Rattle.std.proofs.Common.{◌≡◌, ◌∙◌, ap, refl, ℕ, ◌+◌, List, [], ◌∷◌, Ordering, Less, Equal, Greater, Option, Some, None, arith}
use Rattle.std.proofs.lemmas.Cmp.{nat_list_cmp_total, tied_itself}
use Rattle.std.specs.List.Sorted.{IsStrictlySortedBy}
use Rattle.math_tree.proofs.Lookup.{compare}
use Rattle.math_tree.proofs.Lists.{bytes_more}
use Rattle.math_tree.specs.Attributes.{IsInOrder, bytes_of_attributes, names_of, put, value_of, without}
use Rattle.math_tree.specs.declared.attributes.Attribute.{Attribute}
use Rattle.tree_edits.proofs.Inverse.{IsBeforeAll, same_name, further, value_absent, without_absent, put_first, further_on, value_further_on, dropped, value_here}
use Rattle.tree_edits.specs.Edits.{with_value}
use Rattle.tree_edits.specs.Sizes.{attribute_bytes}

abbrev bytes : List Attribute → ℕ
bytes xs = bytes_of_attributes xs

-- none of that name
absent : (name : List ℕ) (value : Option (List ℕ)) (xs : List Attribute) → IsBeforeAll name xs
    → bytes (with_value name value xs) ≡ bytes xs + attribute_bytes name value
absent name (Some value) xs h =
    let a : Attribute = record { name = name; value = value } in
    ap bytes (put_first a xs h) ∙ omega (arith, bytes_more a xs)
absent name None xs h = ap bytes (without_absent name xs h) ∙ omega arith

-- the first has the name
here : (name : List ℕ) (value : Option (List ℕ)) (x : Attribute) (xs : List Attribute) → name ≡ x.name → IsBeforeAll x.name xs
    → bytes (with_value name value (x ∷ xs)) + attribute_bytes name (Some x.value) ≡ bytes (x ∷ xs) + attribute_bytes name value
here name value x xs same h = rw same (by value)
  where
    tied : compare x.name x.name ≡ Equal
    tied = tied_itself nat_list_cmp_total x.name

    by : (value : Option (List ℕ)) → bytes (with_value x.name value (x ∷ xs)) + attribute_bytes x.name (Some x.value) ≡ bytes (x ∷ xs) + attribute_bytes x.name value
    by (Some value) =
        let a : Attribute = record { name = x.name; value = value } in
        let put_is : put a (x ∷ xs) ≡ a ∷ xs = rw tied refl in
        omega (arith, ap bytes put_is, bytes_more a xs, bytes_more x xs)
    by None =
        let rest : without x.name (x ∷ xs) ≡ xs = dropped x xs ∙ without_absent x.name xs h in
        omega (arith, ap bytes rest, bytes_more x xs)

-- with a value or without one, in place of what it had
module _ (name : List ℕ) (value : Option (List ℕ)) where
  abbrev IsCounted : List Attribute → Type 0
  IsCounted xs = bytes (with_value name value xs) + attribute_bytes name (value_of name xs) ≡ bytes xs + attribute_bytes name value

  counted_at : (x : Attribute) (xs : List Attribute) (o : Ordering) → compare name x.name ≡ o → IsBeforeAll x.name xs → IsCounted xs → IsCounted (x ∷ xs)
  counted_at x xs Less e h more =
      let all : IsBeforeAll name (x ∷ xs) = (e, further name x.name (names_of xs) e h) in
      let none = ap (attribute_bytes name) (value_absent name (x ∷ xs) all) in
      omega (arith, none, absent name value (x ∷ xs) all)
  counted_at x xs Equal e h more =
      ap (λ former. bytes (with_value name value (x ∷ xs)) + attribute_bytes name former) (value_here name x xs e)
      ∙ here name value x xs (same_name name x.name e) h
  counted_at x xs Greater e h more =
      let former = ap (attribute_bytes name) (value_further_on name x xs e) in
      let all = ap bytes (further_on name value x xs e) in
      omega (arith, former, all, bytes_more x (with_value name value xs), bytes_more x xs, more)

  pub value_bytes : (xs : List Attribute) → IsInOrder xs → IsCounted xs
  unfolding IsStrictlySortedBy
  value_bytes [] h = let same = absent name value [] tt in omega (arith, same)
  value_bytes (x ∷ xs) h = counted_at x xs (compare name x.name) refl h.0 (value_bytes xs h.1)
