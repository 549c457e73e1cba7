-- Whether ids may be had in a tree.
use Rattle.std.proofs.Common.{◌≡◌, ◌∙◌, sym, ap, refl, inl, inr, ℕ, ◌+◌, ◌≤◌, ◌<◌, List, [], ◌∷◌, ◌++◌, length, take, drop, get_or, Bool, true, false, not, cond, ◌||◌, nat_eq, nat_le, arith, true≢false}
use Rattle.std.proofs.lemmas.List.{append_assoc, take-append-drop, take_more}
use Rattle.std.proofs.lemmas.Bool.{eqb-false, ne_eqb, leb-false, lt-leb, or_cases, or_parts, or_from}
use Rattle.std.proofs.lemmas.Bool.Decides.{Decides-eqb}
use Rattle.std.proofs.lemmas.List.Folds.{list_any-append}
use Rattle.std.specs.Cmp.{nat_eq_equiv}
use Rattle.std.specs.List.{AllByRecursion, IsDistinct, list_any}
use Rattle.tree_edits.proofs.Ids.{AreApart}
use Rattle.tree_edits.specs.Edits.{are_taken, has_one_of, stands_twice}
use Rattle.tree_edits.specs.FreeIds.{is_among}

-- ---- from tests that fail

none_is : (n : ℕ) (ns : List ℕ) → list_any (nat_eq n) ns ≡ false → AllByRecursion (λ m. nat_eq n m ≡ false) ns
none_is n [] h = tt
none_is n (m ∷ ns) h = let parts = or_parts (nat_eq n m) (list_any (nat_eq n) ns) h in (parts.0, none_is n ns parts.1)

pub differ : (ns : List ℕ) → stands_twice ns ≡ false → IsDistinct nat_eq ns
unfolding IsDistinct
differ [] h = tt
differ (n ∷ ns) h =
    let parts = or_parts (list_any (nat_eq n) ns) (stands_twice ns) h in
    (none_is n ns parts.0, differ ns parts.1)

pub below : (next : ℕ) (ns : List ℕ) → list_any (nat_le next) ns ≡ false → AllByRecursion (λ n. n < next) ns
below next [] h = tt
below next (n ∷ ns) h =
    let parts = or_parts (nat_le next n) (list_any (nat_le next) ns) h in
    (leb-false next n parts.0, below next ns parts.1)

pub apart : (held ids : List ℕ) → has_one_of held ids ≡ false → AreApart held ids
apart [] ids h = tt
apart (n ∷ held) ids h =
    let parts = or_parts (list_any (nat_eq n) ids) (has_one_of held ids) h in
    (none_is n ids parts.0, apart held ids parts.1)

pub record AreFreeIds (ids : List ℕ) (next : ℕ) (held : List ℕ) : Type 0 where
  pub distinct : IsDistinct nat_eq ids
  pub given : AllByRecursion (λ n. n < next) ids
  pub apart : AreApart held ids

pub free_ids : (ids : List ℕ) (next : ℕ) (held : List ℕ) → are_taken ids next held ≡ false → AreFreeIds ids next held
free_ids ids next held h =
    let both = or_parts (stands_twice ids || list_any (nat_le next) ids) (has_one_of held ids) h in
    let own = or_parts (stands_twice ids) (list_any (nat_le next) ids) both.0 in
    record { distinct = differ ids own.0; given = below next ids own.1; apart = apart held ids both.1 }

-- ---- and back

is_none : (n : ℕ) (ns : List ℕ) → AllByRecursion (λ m. nat_eq n m ≡ false) ns → list_any (nat_eq n) ns ≡ false
is_none n [] h = refl
is_none n (m ∷ ns) h = or_from (nat_eq n m) (list_any (nat_eq n) ns) h.0 (is_none n ns h.1)

once_each : (ns : List ℕ) → IsDistinct nat_eq ns → stands_twice ns ≡ false
unfolding IsDistinct
once_each [] d = refl
once_each (n ∷ ns) d = or_from (list_any (nat_eq n) ns) (stands_twice ns) (is_none n ns d.0) (once_each ns d.1)

all_below : (next : ℕ) (ns : List ℕ) → AllByRecursion (λ n. n < next) ns → list_any (nat_le next) ns ≡ false
all_below next [] h = refl
all_below next (n ∷ ns) h = or_from (nat_le next n) (list_any (nat_le next) ns) (lt-leb next n h.0) (all_below next ns h.1)

none_of : (held ids : List ℕ) → AreApart held ids → has_one_of held ids ≡ false
none_of [] ids h = refl
none_of (n ∷ held) ids h = or_from (list_any (nat_eq n) ids) (has_one_of held ids) (is_none n ids h.0) (none_of held ids h.1)

pub not_taken : (ids : List ℕ) (next : ℕ) (held : List ℕ) → AreFreeIds ids next held → are_taken ids next held ≡ false
not_taken ids next held free =
    or_from (stands_twice ids || list_any (nat_le next) ids) (has_one_of held ids)
    (or_from (stands_twice ids) (list_any (nat_le next) ids) (once_each ids free.distinct) (all_below next ids free.given))
    (none_of held ids free.apart)

-- a later next id takes none
pub free_later : (ids : List ℕ) (next later : ℕ) (held : List ℕ) → next ≤ later → are_taken ids next held ≡ false → are_taken ids later held ≡ false
free_later ids next later held le h =
    let free = free_ids ids next held h in
    not_taken ids later held (record { distinct = free.distinct; given = further next later ids le free.given; apart = free.apart })
  where
    further : (next later : ℕ) (ns : List ℕ) → next ≤ later → AllByRecursion (λ n. n < next) ns → AllByRecursion (λ n. n < later) ns
    further next later [] le h = tt
    further next later (n ∷ ns) le h = let first = h.0 in (omega (arith, first, le), further next later ns le h.1)

-- ---- one after another

either_true : (a b : Bool) → a ≡ true → (a || b) ≡ true
either_true true b h = refl
either_true false b h = absurd (true≢false (sym h))

or_true : (a b : Bool) → b ≡ true → (a || b) ≡ true
or_true true b h = refl
or_true false b h = h

turned : (a b : ℕ) → nat_eq a b ≡ false → nat_eq b a ≡ false
turned a b h = ne_eqb b a (λ same. eqb-false a b h (sym same))

same_turned : (a b : ℕ) → nat_eq a b ≡ true → nat_eq b a ≡ true
same_turned a b h = (Decides-eqb b a).1 (sym ((Decides-eqb a b).0 h))

twice_more : (xs : List ℕ) (n : ℕ) → stands_twice xs ≡ false → list_any (nat_eq n) xs ≡ false → stands_twice (xs ++ n ∷ []) ≡ false
twice_more [] n h k = refl
twice_more (x ∷ xs) n h k =
    let own = or_parts (list_any (nat_eq x) xs) (stands_twice xs) h in
    let new = or_parts (nat_eq n x) (list_any (nat_eq n) xs) k in
    or_from (list_any (nat_eq x) (xs ++ n ∷ [])) (stands_twice (xs ++ n ∷ []))
    (list_any-append (nat_eq x) xs (n ∷ [])
    ∙ or_from (list_any (nat_eq x) xs) (list_any (nat_eq x) (n ∷ [])) own.0 (or_from (nat_eq x n) false (turned n x new.0) refl))
    (twice_more xs n own.1 new.1)

twice_found : (xs : List ℕ) (n : ℕ) (rest : List ℕ) → list_any (nat_eq n) xs ≡ true → stands_twice (xs ++ n ∷ rest) ≡ true
twice_found [] n rest h = absurd (true≢false (sym h))
twice_found (x ∷ xs) n rest h =
    elim (or_cases (nat_eq n x) (list_any (nat_eq n) xs) h) [
      | inl same ↦ either_true (list_any (nat_eq x) (xs ++ n ∷ rest)) (stands_twice (xs ++ n ∷ rest))
          (list_any-append (nat_eq x) xs (n ∷ rest)
          ∙ or_true (list_any (nat_eq x) xs) (list_any (nat_eq x) (n ∷ rest)) (either_true (nat_eq x n) (list_any (nat_eq x) rest) (same_turned n x same)))
      | inr more ↦ or_true (list_any (nat_eq x) (xs ++ n ∷ rest)) (stands_twice (xs ++ n ∷ rest)) (twice_found xs n rest more)
    ]

-- no two are one and each is below a bound
abbrev pub is_bad : List ℕ → ℕ → Bool
is_bad ids next = stands_twice ids || list_any (nat_le next) ids

-- one more, which is new and below it
pub still_good : (xs : List ℕ) (n next : ℕ) → is_bad xs next ≡ false → nat_le next n ≡ false → list_any (nat_eq n) xs ≡ false
    → is_bad (xs ++ n ∷ []) next ≡ false
still_good xs n next h low new =
    let own = or_parts (stands_twice xs) (list_any (nat_le next) xs) h in
    or_from (stands_twice (xs ++ n ∷ [])) (list_any (nat_le next) (xs ++ n ∷ [])) (twice_more xs n own.0 new)
    (list_any-append (nat_le next) xs (n ∷ []) ∙ or_from (list_any (nat_le next) xs) (list_any (nat_le next) (n ∷ [])) own.1 (or_from (nat_le next n) false low refl))

-- one that isn't
pub high_found : (xs : List ℕ) (n next : ℕ) (rest : List ℕ) → nat_le next n ≡ true → is_bad (xs ++ n ∷ rest) next ≡ true
high_found xs n next rest high =
    or_true (stands_twice (xs ++ n ∷ rest)) (list_any (nat_le next) (xs ++ n ∷ rest))
    (list_any-append (nat_le next) xs (n ∷ rest)
    ∙ or_true (list_any (nat_le next) xs) (list_any (nat_le next) (n ∷ rest)) (either_true (nat_le next n) (list_any (nat_le next) rest) high))

pub again_found : (xs : List ℕ) (n next : ℕ) (rest : List ℕ) → list_any (nat_eq n) xs ≡ true → is_bad (xs ++ n ∷ rest) next ≡ true
again_found xs n next rest again =
    either_true (stands_twice (xs ++ n ∷ rest)) (list_any (nat_le next) (xs ++ n ∷ rest)) (twice_found xs n rest again)

-- ---- a list, item by item, with those before it as a set

split_at : (ids : List ℕ) (i n : ℕ) → i < length ids → n ≡ get_or ids i n → ids ≡ take i ids ++ (n ∷ drop (i + 1) ids)
split_at ids i n within is =
    sym (take-append-drop (i + 1) ids)
    ∙ ap (λ l. l ++ drop (i + 1) ids) (take_more ids i n within ∙ ap (λ m. take i ids ++ (m ∷ [])) (sym is))
    ∙ append_assoc (take i ids) (n ∷ []) (drop (i + 1) ids)

was_there : (r b : Bool) → r ≡ not b → not r ≡ true → b ≡ true
was_there r true e h = refl
was_there r false e h = absurd (true≢false (sym h ∙ ap not e))

was_absent : (r b : Bool) → r ≡ not b → not r ≡ false → b ≡ false
was_absent r true e h = absurd (true≢false (sym (ap not e) ∙ h))
was_absent r false e h = refl

pub found_again : (ids : List ℕ) (i next n : ℕ) (keys : List ℕ) (r : Bool) → i < length ids → n ≡ get_or ids i n
    → ((id : ℕ) → is_among keys id ≡ is_among (take i ids) id)
    → r ≡ not (list_any (nat_eq n) keys) → not r ≡ true → is_bad ids next ≡ true
found_again ids i next n keys r within is held added twice =
    let there = sym (held n) ∙ was_there r (list_any (nat_eq n) keys) added twice in
    ap (λ l. is_bad l next) (split_at ids i n within is) ∙ again_found (take i ids) n next (drop (i + 1) ids) there

new_or_held : (new held : Bool) → cond new true held ≡ (held || (new || false))
new_or_held true true = refl
new_or_held true false = refl
new_or_held false true = refl
new_or_held false false = refl

pub still_free : (ids : List ℕ) (i next n : ℕ) (keys after : List ℕ) (r : Bool) → i < length ids → n ≡ get_or ids i n → is_bad (take i ids) next ≡ false
    → ((id : ℕ) → is_among keys id ≡ is_among (take i ids) id) → n < next → r ≡ not (list_any (nat_eq n) keys) → not r ≡ false
    → ((id : ℕ) → list_any (nat_eq id) after ≡ cond (nat_eq n id) true (list_any (nat_eq id) keys))
    → (is_bad (take (i + 1) ids) next ≡ false) × ((id : ℕ) → is_among after id ≡ is_among (take (i + 1) ids) id)
still_free ids i next n keys after r within is good held low added once now =
    let none = was_absent r (list_any (nat_eq n) keys) added once in
    let more : take (i + 1) ids ≡ take i ids ++ n ∷ [] = take_more ids i n within ∙ ap (λ m. take i ids ++ (m ∷ [])) (sym is) in (
      ap (λ l. is_bad l next) more ∙ still_good (take i ids) n next good (lt-leb next n low) (sym (held n) ∙ none),
      λ id. now id
          ∙ (λ k. cond (nat_eq_equiv.symm n id k) true (held id k))
          ∙ new_or_held (nat_eq id n) (is_among (take i ids) id)
          ∙ sym (ap (λ l. is_among l id) more ∙ list_any-append (nat_eq id) (take i ids) (n ∷ [])),
    )
